use Rattle.statements.specs.Calls.{IsNumber}
use Rattle.statements.proofs.Transactions.{queries_by}
use Rattle.statements.proofs.RetentionTexts.{find_retention_asks}
use Rattle.statements.proofs.RetentionReads.{find_retention_shows}
use Rattle.statements.proofs.retentions.find.Goals as goal

pub returns : goal.returns
returns g c =
    queries_by IsNumber _ _ _ (c.first_row-row.ensures.mode, (λ clean. rw (c.params-to_sql.ensures, c.params-to_sql-2.ensures) at (c.first_row-row.ensures.row find_retention_asks.is_query clean)), c.first_row-row.ensures.calm find_retention_asks.is_query, c.first_row-row.ensures.survives find_retention_asks.is_query) c.read_one.ensures
    (λ t holds row first. find_retention_shows _ _ t holds c.args.org.now c.args.ws.now row first)
