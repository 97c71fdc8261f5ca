use Rattle.statements.specs.Calls.{IsWorkspace}
use Rattle.statements.proofs.Transactions.{queries_by}
use Rattle.statements.proofs.WsTexts.{find_ws_asks}
use Rattle.statements.proofs.WsReads.{find_ws_shows}
use Rattle.statements.proofs.workspaces.find.Goals as goal

pub returns : goal.returns
returns g c =
    queries_by IsWorkspace _ _ _ (c.first_row-row.ensures.mode, (λ clean. rw (c.params-to_sql.ensures, c.params-to_sql-2.ensures) at (c.first_row-row.ensures.row find_ws_asks.is_query clean)), c.first_row-row.ensures.calm find_ws_asks.is_query, c.first_row-row.ensures.survives find_ws_asks.is_query) c.read_one.ensures
    (λ t holds row first. find_ws_shows _ _ t holds c.args.org.now c.args.name.now row first)
