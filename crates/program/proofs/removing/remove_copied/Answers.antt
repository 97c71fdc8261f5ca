use Rattle.std.proofs.Common.{List, ℕ, Option, inl, inr, subst}
use Rattle.program.specs.declared.environment.Opening.TheVariants.{Existing}
use Rattle.program.specs.Outcomes.{stream, error_stream, DiffersOrFails, IsRemovedCopied}
use Rattle.program.proofs.CopyLemmas.{copies_as, copies_checked, copies_over}
use Rattle.program.proofs.RemoveLemmas.{removed_copied}
use Rattle.program.proofs.removing.remove_copied.Goals as goal

pub returns-in-Err-clause-removes : goal.returns-in-Err-clause-removes
returns-in-Err-clause-removes g c = inr c.in-Err.ensures.refused

pub returns-clause-removes : goal.returns-clause-removes
returns-clause-removes g c =
    let out = g.O.Write.contents in
    let err = g.E.ErrorStream.reported in
    let org = c.args.org.now in
    let is_forced = c.args.is_forced in
    let copy = c.in-Ok.stores.0 in
    let store = c.in-Ok.stores.1 in
    let removed = c.remove_same-answered in
    let said = c.say_removed-exit in
    let left = said.new.store in
    let fails = DiffersOrFails g.K.Keep g.F.Files in
    let reported = error_stream (err c.open_both.new.errors) (err said.new.errors) in
    inl (copies_over g.K.Keep g.F.Files c.args.at.now c.args.db.now Existing (λ at from old new errors. IsRemovedCopied (fails at) is_forced org from old new said.result (stream (out c.args.output.now) (out said.new.output)) errors) fails
    c.args.files.now c.open_both.new.files c.close_both.new.files copy removed.new.copy store left
    (err c.args.errors.now) (err c.open_both.new.errors) (err said.new.errors) (err c.close_both.new.errors) c.in-Ok.ensures.opened.0
    (copies_checked g.K.Keep _ copy removed.new.copy store removed.new.store left
    (copies_as g.K.Keep _ _ copy removed.new.copy store removed.new.store
    (λ from old new became.
    subst (λ (before : Option (List ℕ)). IsRemovedCopied (fails left) is_forced org from old new said.result (stream before (out said.new.output)) reported) c.in-Ok.ensures.opened.1
    (removed_copied (fails left) is_forced org from old new said.result (stream (out c.open_both.new.output) (out said.new.output)) reported removed.result became said.ensures.reports))
    removed.ensures)
    said.ensures.unchanged)
    said.ensures.why c.close_both.ensures)
