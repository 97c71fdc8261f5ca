use Rattle.serve.proofs.service.Service.admin.Goals as goal
use Rattle.std.proofs.lemmas.Result.{IfOk-weaker}

pub returns-clause-ok : goal.returns-clause-ok
returns-clause-ok g c = λ clean sound. IfOk-weaker c.command.result _ _ (λ answer carried. carried c.args.now) (c.command.ensures.ok clean sound)
