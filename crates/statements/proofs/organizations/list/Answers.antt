use Rattle.statements.proofs.Outside.{[], Shown}
use Rattle.statements.specs.Calls.{IsOrganization}
use Rattle.statements.specs.declared.organizations.TheConstants.{LIST_ORGS}
use Rattle.statements.proofs.Transactions.{queries_all}
use Rattle.statements.proofs.OrgTexts.{list_orgs_asks}
use Rattle.statements.proofs.OrgReads.{list_orgs_shows}
use Rattle.statements.proofs.organizations.list.Goals as goal

pub returns : goal.returns
returns g c =
    queries_all IsOrganization (Shown LIST_ORGS.now []) _ (c.all_rows-rows.ensures.mode, c.all_rows-rows.ensures.rows, c.all_rows-rows.ensures.calm list_orgs_asks.is_query, c.all_rows-rows.ensures.survives list_orgs_asks.is_query) c.read_all.ensures
    (λ t holds apart rows orgs shown read. list_orgs_shows _ _ t holds rows orgs apart shown read)
