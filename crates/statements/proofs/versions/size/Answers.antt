use Rattle.statements.specs.Calls.{IsNumber}
use Rattle.statements.proofs.Transactions.{queries_by}
use Rattle.statements.proofs.VersionTexts.{version_size_asks}
use Rattle.statements.proofs.VersionReads.{version_size_shows}
use Rattle.statements.proofs.versions.size.Goals as goal

pub returns : goal.returns
returns g c =
    queries_by IsNumber _ _ _ (c.first_row-row.ensures.mode, (λ clean. rw (c.params-to_sql.ensures, c.params-to_sql-2.ensures, c.params-to_sql-3.ensures, c.get-number.ensures.value) at (c.first_row-row.ensures.row version_size_asks.is_query clean)), c.first_row-row.ensures.calm version_size_asks.is_query, c.first_row-row.ensures.survives version_size_asks.is_query) c.read_one.ensures
    (λ t holds row first. version_size_shows _ _ t holds c.args.org.now c.args.ws.now c.args.number row first)
