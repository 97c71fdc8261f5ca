use Rattle.std.proofs.Common.{inl, inr, subst}
use Rattle.program.specs.declared.environment.Opening.{Opening}
use Rattle.program.specs.Outcomes.{Opens, RefusesToOpen, stream, error_stream}
use Rattle.program.proofs.OutcomeLemmas.{refused_by, refused_command}
use Rattle.program.proofs.EnvironmentLemmas.{operates}
use Rattle.program.proofs.operating.carry_out.Goals as goal

pub returns-in-Err-clause-line : goal.returns-in-Err-clause-line
returns-in-Err-clause-line g c = refused_command c.args.command.now c.in-Err.exit _ _ (refused_by g.K.Keep g.F.Files c.args.db.now c.opening_of.result c.args.files.now c.open_one.new.files c.in-Err.exit (g.O.Write.contents c.args.output.now) (g.O.Write.contents c.open_one.new.output) (g.E.ErrorStream.reported c.args.errors.now) (g.E.ErrorStream.reported c.open_one.new.errors) c.in-Err.ensures.refused)

pub returns-in-Err-clause-operates : goal.returns-in-Err-clause-operates
returns-in-Err-clause-operates g c =
    let out = g.O.Write.contents in
    let err = g.E.ErrorStream.reported in
    inr (subst (λ (opening : Opening). RefusesToOpen g.K.Keep g.F.Files c.args.db.now opening c.args.files.now c.open_one.new.files c.in-Err.exit
    (stream (out c.args.output.now) (out c.open_one.new.output)) (error_stream (err c.args.errors.now) (err c.open_one.new.errors))) c.opening_of.ensures c.in-Err.ensures.refused)

pub returns-clause-operates : goal.returns-clause-operates
returns-clause-operates g c =
    let out = g.O.Write.contents in
    let err = g.E.ErrorStream.reported in
    let done = c.operate-exit in
    inl (operates g.K.Keep g.F.Files c.args.db.now c.args.command.now c.args.files.now c.open_one.new.files c.close_after.new.files c.in-Ok.store done.result.1 done.result.0
    (out c.args.output.now) (out c.open_one.new.output) (out done.new.output) (err c.args.errors.now) (err c.open_one.new.errors) (err done.new.errors) (err c.close_after.new.errors)
    (subst (λ (opening : Opening). Opens g.K.Keep g.F.Files c.args.db.now opening c.args.files.now c.open_one.new.files c.in-Ok.store (error_stream (err c.args.errors.now) (err c.open_one.new.errors))) c.opening_of.ensures c.in-Ok.ensures.opened.0)
    c.in-Ok.ensures.opened.1 done.ensures.lasts done.ensures.model done.ensures.why c.close_after.ensures)
