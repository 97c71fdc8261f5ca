use Rattle.machine.proofs.PlainLemmas.{organizations_listed}
use Rattle.machine.proofs.plain.PlainKeepKeep.org_list.Goals as goal

pub returns-clause-ok : goal.returns-clause-ok
returns-clause-ok c = λ clean lawful. organizations_listed _ (λ e. e.name) (λ e. e.value) c.entries.result.now c.in_ok-rows.rows c.entries.ensures c.in_ok-rows.ensures
