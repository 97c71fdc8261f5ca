use Rattle.serve.proofs.Outside.{subst, IfOk-weaker}
use Rattle.serve.specs.Inner.Prepared.{IsTaskInRange}
use Rattle.serve.proofs.requests.perform.Goals as goal

pub returns-in_ok-reply-in-ListAll-clause-ok : goal.returns-in_ok-reply-in-ListAll-clause-ok
returns-in_ok-reply-in-ListAll-clause-ok g c = λ clean sound some range. rw c.in-ListAll.is (c.in_ok-reply-in-ListAll.ensures.ok clean sound c.args.at)

pub returns-in-Carry-clause-ok : goal.returns-in-Carry-clause-ok
returns-in-Carry-clause-ok g c = λ clean sound. IfOk-weaker c.rule.result _ _ (λ p foreseen some range. rw c.in-Carry.is (foreseen some (subst IsTaskInRange c.in-Carry.is range))) (c.rule.ensures.ok clean sound)
