use Rattle.statements.specs.Calls.{IsVersionRow, FirstRows}
use Rattle.statements.specs.declared.versions.TheConstants.{LIST_VERSIONS}
use Rattle.statements.proofs.Transactions.{queries_all}
use Rattle.statements.proofs.VersionTexts.{list_versions_asks}
use Rattle.statements.proofs.VersionReads.{list_versions_shows}
use Rattle.statements.proofs.versions.list.Goals as goal

pub returns : goal.returns
returns g c =
    queries_all IsVersionRow (FirstRows c.args.most LIST_VERSIONS.now _) _ (c.first_rows-rows.ensures.mode, (λ clean. rw (c.params-to_sql.ensures, c.params-to_sql-2.ensures, c.params-to_sql-3.ensures) at (c.first_rows-rows.ensures.rows list_versions_asks.is_query clean)), c.first_rows-rows.ensures.calm list_versions_asks.is_query, c.first_rows-rows.ensures.survives list_versions_asks.is_query) c.read_all.ensures
    (λ t holds rise rows heads first read. list_versions_shows _ _ t holds c.args.org.now c.args.ws.now c.args.after c.args.most rows heads rise first read)
