use Rattle.std.proofs.Common.{◌≡◌, Some, None, rules, ap, subst, ◌∙◌}
use Rattle.serve.proofs.Outside.{seen_in, ChangeIsDue, Accepted}
use Rattle.serve.proofs.RecordLemmas.{refusal_foreseen, acceptance_foreseen}
use Rattle.serve.proofs.requests.answer_decision.Goals as goal

pub returns-in_ok-reply-in-Refused-clause-ok : goal.returns-in_ok-reply-in-Refused-clause-ok
returns-in_ok-reply-in-Refused-clause-ok g c = λ clean sound some seen due.
    rw c.in-Refused.is (refusal_foreseen (g.K.Keep.rows c.args.keep.now c.args.org.now) c.args.org.now c.args.ws c.args.unit.now c.in-Refused.refusal c.in_ok-reply-in-Refused.reply
    c.in_ok-reply-in-Refused.ensures seen)

pub returns-in_default-clause-ok : goal.returns-in_default-clause-ok
returns-in_default-clause-ok g c = λ clean sound some seen due.
    let is = c.in-Accepted.is ∙ ap (Accepted c.in-Accepted.answer) c.in_default.is in
    rw is (acceptance_foreseen (g.K.Keep.rows c.args.keep.now c.args.org.now) c.args.org.now c.args.ws c.in-Accepted.answer None c.in_ok-reply-in-Accepted.reply
    some (c.in_ok-reply-in-Accepted.ensures.ok clean sound) (λ o e. subst (ChangeIsDue (seen_in o c.args.ws)) is (due o e)))

pub returns-in_ok-org-in-Accepted-clause-ok : goal.returns-in_ok-org-in-Accepted-clause-ok
returns-in_ok-org-in-Accepted-clause-ok g c = λ clean sound some seen due.
    let is = c.in-Accepted.is ∙ ap (Accepted c.in-Accepted.answer) c.in-Some.is in
    let same : c.in_ok-org-in-Accepted.org ≡ c.args.org.now = search rules in
    rw is (rw same (acceptance_foreseen (g.K.Keep.rows c.args.keep.now c.args.org.now) c.args.org.now c.args.ws c.in-Accepted.answer (Some c.in-Some.change) c.in_ok-reply-in-Accepted.reply
    some (c.in_ok-reply-in-Accepted.ensures.ok clean sound) (λ o e. subst (ChangeIsDue (seen_in o c.args.ws)) is (due o e))))
