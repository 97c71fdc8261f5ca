use Rattle.std.proofs.Common.{inl, inr}
use Rattle.program.specs.declared.environment.Opening.TheVariants.{Read}
use Rattle.program.proofs.OutcomeLemmas.{refused_by, refused_faults}
use Rattle.program.proofs.EnvironmentLemmas.{checks_at}
use Rattle.program.proofs.checking.check.Goals as goal

pub returns-in-Err-clause-line : goal.returns-in-Err-clause-line
returns-in-Err-clause-line g c = refused_faults c.in-Err.exit _ _ (refused_by g.K.Keep g.F.Files c.args.db.now Read c.args.files.now c.open_one.new.files c.in-Err.exit (g.O.Write.contents c.args.output.now) (g.O.Write.contents c.open_one.new.output) (g.E.ErrorStream.reported c.args.errors.now) (g.E.ErrorStream.reported c.open_one.new.errors) c.in-Err.ensures.refused)

pub returns-in-Err-clause-unchanged : goal.returns-in-Err-clause-unchanged
returns-in-Err-clause-unchanged g c = inr c.in-Err.ensures.refused

pub returns-clause-unchanged : goal.returns-clause-unchanged
returns-clause-unchanged g c =
    let out = g.O.Write.contents in
    let err = g.E.ErrorStream.reported in
    inl (checks_at g.K.Keep g.F.Files c.args.db.now c.args.files.now c.open_one.new.files c.close_after.new.files c.in-Ok.store c.check-found.new.store c.check-found.result c.say_found-exit.result
    (out c.args.output.now) (out c.open_one.new.output) (out c.say_found-exit.new.output) (err c.args.errors.now) (err c.open_one.new.errors) (err c.say_found-exit.new.errors) (err c.close_after.new.errors)
    c.in-Ok.ensures.opened.0 c.in-Ok.ensures.opened.1 c.check-found.ensures.unchanged c.check-found.ensures.found c.check-found.ensures.sound c.say_found-exit.ensures.reports c.close_after.ensures)
