use Rattle.std.proofs.Common.{subst}
use Rattle.serve.specs.declared.steps.Admin.{Admin}
use Rattle.program.specs.Outcomes.{stream, error_stream, OperatesAt}
use Rattle.program.proofs.operating.add_token.Goals as goal

pub returns-clause-operates : goal.returns-clause-operates
returns-clause-operates g c =
    subst (λ (command : Admin). OperatesAt g.K.Keep g.F.Files c.args.db.now command c.args.files.now c.carry_out.new.files c.carry_out.result
    (stream (g.O.Write.contents c.args.output.now) (g.O.Write.contents c.carry_out.new.output)) (error_stream (g.E.ErrorStream.reported c.args.errors.now) (g.E.ErrorStream.reported c.carry_out.new.errors))) c.with_secret-command.ensures c.carry_out.ensures.operates
