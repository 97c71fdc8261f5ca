use Rattle.statements.proofs.Outside.{w64, to_z-of_z}
use Rattle.statements.specs.Calls.{IsNamedRow, FirstRows}
use Rattle.statements.specs.declared.workspaces.TheConstants.{LIST_WS}
use Rattle.statements.proofs.Codes.{limit_fits}
use Rattle.statements.proofs.Transactions.{queries_all}
use Rattle.statements.proofs.WsListTexts.{list_ws_is_query}
use Rattle.statements.proofs.WsReads.{list_ws_shows}
use Rattle.statements.proofs.workspaces.list_all.Goals as goal

pub returns : goal.returns
returns g c =
    queries_all IsNamedRow (FirstRows c.args.most LIST_WS.now _) _ (c.first_rows-rows.ensures.mode, (λ clean. rw (c.params-to_sql.ensures, c.params-to_sql-2.ensures, c.params-to_sql-3.ensures, to_z-of_z w64 c.limit-limit.result (limit_fits c.args.most _ c.limit-limit.ensures)) at (c.first_rows-rows.ensures.rows list_ws_is_query clean)), c.first_rows-rows.ensures.calm list_ws_is_query, c.first_rows-rows.ensures.survives list_ws_is_query) c.read_all.ensures
    (λ t holds apart rows wss first read. list_ws_shows _ _ t holds c.args.org.now c.args.after.now c.args.most _ c.limit-limit.ensures rows wss apart first read)
