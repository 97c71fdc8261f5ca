use Rattle.sqlite.specs.State.{Shown}
use Rattle.statements.specs.Calls.{IsName}
use Rattle.statements.specs.declared.workspaces.TheConstants.{LIST_NAMES}
use Rattle.statements.proofs.Transactions.{queries_all}
use Rattle.statements.proofs.WsTexts.{list_names_asks}
use Rattle.statements.proofs.WsReads.{list_names_shows}
use Rattle.statements.proofs.workspaces.names.Goals as goal

pub returns : goal.returns
returns g c =
    queries_all IsName (Shown LIST_NAMES.now _) _ (c.all_rows-rows.ensures.mode, (λ clean. rw c.params-to_sql.ensures at (c.all_rows-rows.ensures.rows clean)), c.all_rows-rows.ensures.calm list_names_asks.is_query, c.all_rows-rows.ensures.survives list_names_asks.is_query) c.read_all.ensures
    (λ t holds apart rows names shown read. list_names_shows _ _ t holds c.args.org.now rows names apart shown read)
