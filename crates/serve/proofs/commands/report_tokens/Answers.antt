use Rattle.serve.proofs.Outside.{subst, IfOk-weaker, AdminAnswer}
use Rattle.serve.specs.Inner.Taking.{IsReported}
use Rattle.serve.proofs.commands.report_tokens.Goals as goal

pub returns-clause-ok : goal.returns-clause-ok
returns-clause-ok g c = λ clean sound. IfOk-weaker c.report_answer.result _ _ (λ reported is. subst (λ (a : AdminAnswer). IsReported a reported) (c.in_ok-answer.ensures.ok clean sound) is) c.report_answer.ensures
