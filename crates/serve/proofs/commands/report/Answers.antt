use Rattle.serve.proofs.TakenLemmas.{list_carried, tokens_carried}
use Rattle.serve.proofs.commands.report.Goals as goal
use Rattle.std.proofs.lemmas.Result.{IfOk-weaker}

pub returns-in-OrgAdd-clause-ok : goal.returns-in-OrgAdd-clause-ok
returns-in-OrgAdd-clause-ok g c = λ clean sound. IfOk-weaker c.report_word.result _ _ (λ reported carried. carried (rw c.in-OrgAdd.is tt)) (c.report_word.ensures.ok clean sound)

pub returns-in-OrgLimit-clause-ok : goal.returns-in-OrgLimit-clause-ok
returns-in-OrgLimit-clause-ok g c = λ clean sound. IfOk-weaker c.report_word-in-OrgLimit.result _ _ (λ reported carried. carried (rw c.in-OrgLimit.is tt)) (c.report_word-in-OrgLimit.ensures.ok clean sound)

pub returns-in-OrgRemove-clause-ok : goal.returns-in-OrgRemove-clause-ok
returns-in-OrgRemove-clause-ok g c = λ clean sound. IfOk-weaker c.report_word-in-OrgRemove.result _ _ (λ reported carried. carried (rw c.in-OrgRemove.is tt)) (c.report_word-in-OrgRemove.ensures.ok clean sound)

pub returns-in-TokenAdd-clause-ok : goal.returns-in-TokenAdd-clause-ok
returns-in-TokenAdd-clause-ok g c = λ clean sound. IfOk-weaker c.report_word-in-TokenAdd.result _ _ (λ reported carried. carried (rw c.in-TokenAdd.is tt)) (c.report_word-in-TokenAdd.ensures.ok clean sound)

pub returns-in-TokenRevoke-clause-ok : goal.returns-in-TokenRevoke-clause-ok
returns-in-TokenRevoke-clause-ok g c = λ clean sound. IfOk-weaker c.report_word-in-TokenRevoke.result _ _ (λ reported carried. carried (rw c.in-TokenRevoke.is tt)) (c.report_word-in-TokenRevoke.ensures.ok clean sound)

pub returns-in-OrgList-clause-ok : goal.returns-in-OrgList-clause-ok
returns-in-OrgList-clause-ok g c = λ clean sound.
    IfOk-weaker c.report_organizations.result _ _
    (λ reported listed. list_carried (g.K.Keep.rows c.args.keep.now) (g.K.Keep.rows c.report_organizations.new.keep) c.args.asked.now reported c.in-OrgList.is (c.report_organizations.ensures.unchanged.same clean) listed.0 listed.1 listed.2)
    (c.report_organizations.ensures.ok clean sound)

pub returns-in-TokenList-clause-ok : goal.returns-in-TokenList-clause-ok
returns-in-TokenList-clause-ok g c = λ clean sound.
    IfOk-weaker c.report_tokens.result _ _
    (λ reported listed. tokens_carried (g.K.Keep.rows c.args.keep.now) (g.K.Keep.rows c.report_tokens.new.keep) c.args.asked.now c.in-TokenList.org reported c.in-TokenList.is (c.report_tokens.ensures.unchanged.same clean) listed)
    (c.report_tokens.ensures.ok clean sound)
