use Rattle.sqlite.specs.State.{Shown}
use Rattle.statements.specs.Calls.{IsBoundedRole}
use Rattle.statements.specs.declared.tokens.TheConstants.{LIST_TOKENS}
use Rattle.statements.proofs.Transactions.{queries_all}
use Rattle.statements.proofs.TokenFoundTexts.{list_tokens_is_query}
use Rattle.statements.proofs.TokenFoundReads.{list_tokens_shows}
use Rattle.statements.proofs.tokens.list.Goals as goal

pub returns : goal.returns
returns g c =
    queries_all IsBoundedRole (Shown LIST_TOKENS.now _) _ (c.all_rows-rows.ensures.mode, (λ clean. rw c.params-to_sql.ensures at (c.all_rows-rows.ensures.rows clean)), c.all_rows-rows.ensures.calm list_tokens_is_query, c.all_rows-rows.ensures.survives list_tokens_is_query) c.read_all.ensures
    (λ t holds apart rows roles shown read. list_tokens_shows _ _ t holds c.args.org.now rows roles apart shown read)
