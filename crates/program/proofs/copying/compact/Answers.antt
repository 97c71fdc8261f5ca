use Rattle.std.proofs.Common.{◌≡◌, List, ℕ, Option, inl, inr, subst}
use Rattle.program.specs.declared.reasons.Cause.TheVariants.{Unfinished}
use Rattle.program.specs.declared.environment.Opening.TheVariants.{Target}
use Rattle.program.specs.Outcomes.{stream, error_stream, IsCompacted}
use Rattle.program.proofs.CopyLemmas.{compacted, copies_as, copies_over, unfinished}
use Rattle.program.proofs.copying.compact.Goals as goal

pub returns-in-Err-clause-copies : goal.returns-in-Err-clause-copies
returns-in-Err-clause-copies g c = inr c.in-Err.ensures.refused

pub returns-clause-copies : goal.returns-clause-copies
returns-clause-copies g c =
    let out = g.O.Write.contents in
    let err = g.E.ErrorStream.reported in
    let source = c.in-Ok.stores.0 in
    let target = c.in-Ok.stores.1 in
    let copies = c.fill-filled in
    let said = c.say_filled-exit in
    let reported = error_stream (err c.open_both.new.errors) (err said.new.errors) in
    inl (copies_over g.K.Keep g.F.Files c.args.from.now c.args.to.now Target (λ at from old new errors. IsCompacted from old new said.result (stream (out c.args.output.now) (out said.new.output)) errors) (λ at why. why ≡ Unfinished)
    c.args.files.now c.open_both.new.files c.close_both.new.files source copies.new.from target copies.new.to
    (err c.args.errors.now) (err c.open_both.new.errors) (err said.new.errors) (err c.close_both.new.errors) c.in-Ok.ensures.opened.0
    (copies_as g.K.Keep _ _ source copies.new.from target copies.new.to
    (λ from old new became.
    subst (λ (before : Option (List ℕ)). IsCompacted from old new said.result (stream before (out said.new.output)) reported) c.in-Ok.ensures.opened.1
    (compacted from old new said.result (stream (out c.open_both.new.output) (out said.new.output)) reported copies.result became.0 became.1 said.ensures.reports said.ensures.down))
    copies.ensures)
    (unfinished _ reported said.ensures.why) c.close_both.ensures)
