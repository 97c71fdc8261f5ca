use Rattle.std.proofs.Common.{rules, ◌≡◌, Option, None, Result, Ok, refl, sym, subst, inl, inr}
use Rattle.basis.specs.declared.memory.Down.{Down}
use Rattle.machine.specs.declared.keeps.AdminAnswer.{AdminAnswer}
use Rattle.program.specs.Outcomes.{stream, error_stream, DiffersOrFails, ReportsRemoval}
use Rattle.program.specs.declared.reasons.Cause.TheVariants.{NotCopied}
use Rattle.program.proofs.removing.say_removed.Goals as goal

pub returns-in-Ok-None-clause-reports : goal.returns-in-Ok-None-clause-reports
returns-in-Ok-None-clause-reports g c =
    let out = g.O.Write.contents in
    let err = g.E.ErrorStream.reported in
    let is : c.args.answered.now ≡ Ok None = search rules in
    subst (λ (r : Result (Option AdminAnswer) Down). ReportsRemoval (DiffersOrFails g.K.Keep g.F.Files c.args.store.now) r c.refuse.result (stream (out c.args.output.now) (out c.refuse.new.output)) (error_stream (err c.args.errors.now) (err c.refuse.new.errors)))
    (sym is) (NotCopied, inl refl, (c.refuse.ensures.said, c.refuse.ensures.why))

pub returns-in-Ok-None-clause-why : goal.returns-in-Ok-None-clause-why
returns-in-Ok-None-clause-why g c = inr (NotCopied, inl refl, c.refuse.ensures.why)
