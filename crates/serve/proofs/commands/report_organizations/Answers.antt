use Rattle.serve.proofs.commands.report_organizations.Goals as goal
use Rattle.std.proofs.lemmas.Result.{IfOk-weaker}

pub returns-clause-ok : goal.returns-clause-ok
returns-clause-ok g c = λ clean sound. IfOk-weaker c.report_answer.result _ _ (λ reported is. (c.in_ok-answer.answer, c.in_ok-answer.ensures.ok clean sound, is)) c.report_answer.ensures
