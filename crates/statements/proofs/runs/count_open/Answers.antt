use Rattle.statements.proofs.Transactions.{queries_count}
use Rattle.statements.proofs.RunTexts.{count_open_runs_asks}
use Rattle.statements.proofs.RunReads.{count_open_runs_shows}
use Rattle.statements.proofs.runs.count_open.Goals as goal

pub returns : goal.returns
returns g c =
    queries_count _ _ _ (c.first_row-row.ensures.mode, (λ clean. rw (c.params-to_sql.ensures, c.params-to_sql-2.ensures) at (c.first_row-row.ensures.row count_open_runs_asks.is_query clean)), c.first_row-row.ensures.calm count_open_runs_asks.is_query, c.first_row-row.ensures.survives count_open_runs_asks.is_query) c.count_of.ensures
    (λ t holds row first. count_open_runs_shows _ _ t holds c.args.org.now c.args.ws.now row first)
