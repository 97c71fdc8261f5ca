use Rattle.statements.specs.Calls.{IsRunRow, FirstRows}
use Rattle.statements.specs.declared.runs.TheConstants.{LIST_RUNS}
use Rattle.statements.proofs.Transactions.{queries_all}
use Rattle.statements.proofs.RunTexts.{list_runs_asks}
use Rattle.statements.proofs.RunReads.{list_runs_shows}
use Rattle.statements.proofs.runs.list.Goals as goal

pub returns : goal.returns
returns g c =
    queries_all IsRunRow (FirstRows c.args.most LIST_RUNS.now _) _ (c.first_rows-rows.ensures.mode, (λ clean. rw (c.params-to_sql.ensures, c.params-to_sql-2.ensures, c.params-to_sql-3.ensures) at (c.first_rows-rows.ensures.rows list_runs_asks.is_query clean)), c.first_rows-rows.ensures.calm list_runs_asks.is_query, c.first_rows-rows.ensures.survives list_runs_asks.is_query) c.read_all.ensures
    (λ t holds rise rows runs first read. list_runs_shows _ _ t holds c.args.org.now c.args.ws.now c.args.after c.args.most rows runs rise first read)
