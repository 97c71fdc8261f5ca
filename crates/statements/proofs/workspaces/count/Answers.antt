use Rattle.statements.proofs.Transactions.{queries_count}
use Rattle.statements.proofs.WsTexts.{count_ws_asks}
use Rattle.statements.proofs.WsReads.{count_ws_shows}
use Rattle.statements.proofs.workspaces.count.Goals as goal

pub returns : goal.returns
returns g c =
    queries_count _ _ _ (c.first_row-row.ensures.mode, (λ clean. rw c.params-to_sql.ensures at (c.first_row-row.ensures.row count_ws_asks.is_query clean)), c.first_row-row.ensures.calm count_ws_asks.is_query, c.first_row-row.ensures.survives count_ws_asks.is_query) c.count_of.ensures
    (λ t holds row first. count_ws_shows _ _ t holds c.args.org.now row first)
