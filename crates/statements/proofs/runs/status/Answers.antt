use Rattle.statements.specs.Calls.{IsStatus}
use Rattle.statements.proofs.Transactions.{queries_by}
use Rattle.statements.proofs.RunTexts.{run_status_asks}
use Rattle.statements.proofs.RunReads.{run_status_shows}
use Rattle.statements.proofs.runs.status.Goals as goal

pub returns : goal.returns
returns g c =
    queries_by IsStatus _ _ _ (c.first_row-row.ensures.mode, (λ clean. rw (c.params-to_sql.ensures, c.params-to_sql-2.ensures, c.params-to_sql-3.ensures, c.get-run.ensures.value) at (c.first_row-row.ensures.row run_status_asks.is_query clean)), c.first_row-row.ensures.calm run_status_asks.is_query, c.first_row-row.ensures.survives run_status_asks.is_query) c.read_one.ensures
    (λ t holds row first. run_status_shows _ _ t holds c.args.org.now c.args.ws.now c.args.run row first)
