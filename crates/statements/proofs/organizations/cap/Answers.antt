use Rattle.statements.specs.Calls.{IsNumber}
use Rattle.statements.proofs.Transactions.{queries_by}
use Rattle.statements.proofs.OrgTexts.{org_cap_asks}
use Rattle.statements.proofs.OrgReads.{org_cap_shows}
use Rattle.statements.proofs.organizations.cap.Goals as goal

pub returns : goal.returns
returns g c =
    queries_by IsNumber _ _ _ (c.first_row-row.ensures.mode, (λ clean. rw c.params-to_sql.ensures at (c.first_row-row.ensures.row org_cap_asks.is_query clean)), c.first_row-row.ensures.calm org_cap_asks.is_query, c.first_row-row.ensures.survives org_cap_asks.is_query) c.read_one.ensures
    (λ t holds row first. org_cap_shows _ _ t holds c.args.name.now row first)
