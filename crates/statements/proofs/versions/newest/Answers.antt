use Rattle.statements.specs.Calls.{IsVersionRow}
use Rattle.statements.proofs.Transactions.{queries_by}
use Rattle.statements.proofs.VersionTexts.{newest_version_asks}
use Rattle.statements.proofs.VersionReads.{newest_version_shows}
use Rattle.statements.proofs.versions.newest.Goals as goal

pub returns : goal.returns
returns g c =
    queries_by IsVersionRow _ _ _ (c.first_row-row.ensures.mode, (λ clean. rw (c.params-to_sql.ensures, c.params-to_sql-2.ensures) at (c.first_row-row.ensures.row newest_version_asks.is_query clean)), c.first_row-row.ensures.calm newest_version_asks.is_query, c.first_row-row.ensures.survives newest_version_asks.is_query) c.read_one.ensures
    (λ t holds row first. newest_version_shows _ _ t holds c.args.org.now c.args.ws.now row first)
