use Rattle.sqlite.specs.State.{Shown}
use Rattle.statements.specs.Calls.{IsNamedToken}
use Rattle.statements.specs.declared.tokens.TheConstants.{LIST_DIGEST_TOKENS}
use Rattle.statements.proofs.Transactions.{queries_all}
use Rattle.statements.proofs.TokenTexts.{list_digest_tokens_asks}
use Rattle.statements.proofs.TokenReads.{list_digest_tokens_shows}
use Rattle.statements.proofs.tokens.list_with_digests.Goals as goal

pub returns : goal.returns
returns g c =
    queries_all IsNamedToken (Shown LIST_DIGEST_TOKENS.now _) _ (c.all_rows-rows.ensures.mode, (λ clean. rw c.params-to_sql.ensures at (c.all_rows-rows.ensures.rows clean)), c.all_rows-rows.ensures.calm list_digest_tokens_asks.is_query, c.all_rows-rows.ensures.survives list_digest_tokens_asks.is_query) c.read_all.ensures
    (λ t holds apart rows tokens shown read. list_digest_tokens_shows _ _ t holds c.args.org.now rows tokens apart shown read)
