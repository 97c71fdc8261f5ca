use Rattle.statements.specs.Calls.{IsRunRow}
use Rattle.statements.proofs.Transactions.{queries_by}
use Rattle.statements.proofs.RunTexts.{find_run_asks}
use Rattle.statements.proofs.RunReads.{find_run_shows}
use Rattle.statements.proofs.runs.find.Goals as goal

pub returns : goal.returns
returns g c =
    queries_by IsRunRow _ _ _ (c.first_row-row.ensures.mode, (λ clean. rw (c.params-to_sql.ensures, c.params-to_sql-2.ensures, c.params-to_sql-3.ensures, c.get-number.ensures.value) at (c.first_row-row.ensures.row find_run_asks.is_query clean)), c.first_row-row.ensures.calm find_run_asks.is_query, c.first_row-row.ensures.survives find_run_asks.is_query) c.read_one.ensures
    (λ t holds row first. find_run_shows _ _ t holds c.args.org.now c.args.ws.now c.args.number row first)
