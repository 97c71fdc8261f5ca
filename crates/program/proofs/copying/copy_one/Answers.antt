use Rattle.std.proofs.Common.{List, ℕ, Option, inl, inr, subst}
use Rattle.program.specs.declared.environment.Opening.TheVariants.{Target}
use Rattle.program.specs.Outcomes.{stream, error_stream, HasFailed, IsCopied}
use Rattle.program.proofs.CopyLemmas.{copied, copies_checked, copies_over}
use Rattle.program.proofs.copying.copy_one.Goals as goal

pub returns-in-Err-clause-copies : goal.returns-in-Err-clause-copies
returns-in-Err-clause-copies g c = inr c.in-Err.ensures.refused

pub returns-clause-copies : goal.returns-clause-copies
returns-clause-copies g c =
    let rows = g.K.Keep.rows in
    let out = g.O.Write.contents in
    let err = g.E.ErrorStream.reported in
    let org = c.args.org.now in
    let source = c.in-Ok.stores.0 in
    let target = c.in-Ok.stores.1 in
    let copy = c.copy-answered.ensures in
    let copied_to = c.copy-answered.new.to in
    let said = c.say_copied-exit in
    let left = said.new.target in
    let fails = HasFailed g.K.Keep g.F.Files in
    let reported = error_stream (err c.open_both.new.errors) (err said.new.errors) in
    inl (copies_over g.K.Keep g.F.Files c.args.from.now c.args.to.now Target (λ at from old new errors. IsCopied (fails at) org from old new said.result (stream (out c.args.output.now) (out said.new.output)) errors) fails
    c.args.files.now c.open_both.new.files c.close_both.new.files source c.copy-answered.new.from target left
    (err c.args.errors.now) (err c.open_both.new.errors) (err said.new.errors) (err c.close_both.new.errors) c.in-Ok.ensures.opened.0
    (copies_checked g.K.Keep _ source c.copy-answered.new.from target copied_to left
    (record {
      unchanged = copy.source;
      so_far = copy.lasts.so_far;
      shield = copy.lasts.shield;
      kept = λ clean sound clean_source sound_source. copy.lasts.kept clean sound (clean_source, sound_source);
      keys = λ clean sound clean_source sound_source. copy.lasts.keys clean sound;
      model = λ clean sound clean_source sound_source.
          subst (λ (before : Option (List ℕ)). IsCopied (fails left) org (rows source) (rows target) (rows copied_to) said.result (stream before (out said.new.output)) reported) c.in-Ok.ensures.opened.1
          (copied (fails left) org (rows source) (rows target) (rows copied_to) said.result (stream (out c.open_both.new.output) (out said.new.output)) reported c.copy-answered.result
          (copy.own clean sound clean_source sound_source) (copy.others clean sound clean_source sound_source) (copy.err clean) said.ensures.reports said.ensures.down);
    }) said.ensures.unchanged)
    said.ensures.why c.close_both.ensures)
