use Rattle.statements.proofs.Outside.{w64, to_z-of_z}
use Rattle.statements.specs.Calls.{IsNamedRow, FirstRows}
use Rattle.statements.specs.declared.workspaces.TheConstants.{LIST_WS_WITHIN}
use Rattle.statements.proofs.Codes.{limit_fits}
use Rattle.statements.proofs.Transactions.{queries_all, left_calm}
use Rattle.statements.proofs.WsListTexts.{list_ws_within_is_query}
use Rattle.statements.proofs.WsReads.{list_ws_within_shows}
use Rattle.statements.proofs.workspaces.list_within.Goals as goal

pub returns : goal.returns
returns g c =
    queries_all IsNamedRow (FirstRows c.args.most LIST_WS_WITHIN.now _) _ (c.first_rows-rows.ensures.mode, (λ clean. rw (c.params-to_sql.ensures, c.params-to_sql-2.ensures, c.params-to_sql-3.ensures, c.params-to_sql-4.ensures, c.params-to_sql-5.ensures, to_z-of_z w64 c.limit-limit.result (limit_fits c.args.most _ c.limit-limit.ensures), c.beginning-from.ensures, c.as_str.ensures.text, c.as_str-2.ensures.value, c.in-Ok.ensures) at (c.first_rows-rows.ensures.rows list_ws_within_is_query clean)), c.first_rows-rows.ensures.calm list_ws_within_is_query, c.first_rows-rows.ensures.survives list_ws_within_is_query) c.read_all.ensures
    (λ t holds apart rows wss first read. list_ws_within_shows _ _ t holds c.args.org.now c.args.after.now c.args.prefix.now c.requires.some c.args.most _ c.limit-limit.ensures rows wss apart first read)

pub returns-in-Err : goal.returns-in-Err
returns-in-Err g c = record {
  mode = c.count-looked.ensures.mode;
  read = λ clean. (tt, (tt, left_calm c.count-looked.result (c.count-looked.ensures.read clean).1));
  survives = c.count-looked.ensures.survives;
}
