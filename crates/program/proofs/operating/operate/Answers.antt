use Rattle.std.proofs.Common.{sym, subst}
use Rattle.program.specs.Outcomes.{stream, error_stream, IsOperated, HasFailed}
use Rattle.program.proofs.operating.operate.Goals as goal

pub returns-clause-model : goal.returns-clause-model
returns-clause-model g c =
    let done = c.operate_on-exit in
    let from = c.new-service.result.keep in
    let output = stream (g.O.Write.contents c.args.output.now) (g.O.Write.contents done.new.output) in
    let errors = error_stream (g.E.ErrorStream.reported c.args.errors.now) (g.E.ErrorStream.reported done.new.errors) in
    subst (λ old. g.K.Keep.clean c.into_keep.result → g.K.Keep.sound old → IsOperated (HasFailed g.K.Keep g.F.Files c.into_keep.result) c.args.command.now (g.K.Keep.rows old) (g.K.Keep.rows c.into_keep.result) done.result output errors) c.new-service.ensures.keep
    (subst (λ new. g.K.Keep.clean new → g.K.Keep.sound from → IsOperated (HasFailed g.K.Keep g.F.Files new) c.args.command.now (g.K.Keep.rows from) (g.K.Keep.rows new) done.result output errors) (sym c.into_keep.ensures)
    done.ensures.model)
