use Rattle.sqlite.specs.State.{Shown}
use Rattle.statements.specs.Calls.{IsBoundedRole}
use Rattle.statements.specs.declared.tokens.TheConstants.{FIND_TOKEN}
use Rattle.statements.proofs.Transactions.{queries_only}
use Rattle.statements.proofs.TokenFoundTexts.{find_token_is_query}
use Rattle.statements.proofs.TokenFoundReads.{find_token_none, find_token_one}
use Rattle.statements.proofs.tokens.find_by_digest.Goals as goal

pub returns : goal.returns
returns g c =
    queries_only IsBoundedRole (Shown FIND_TOKEN.now _) _ (c.all_rows-rows.ensures.mode, (λ clean. rw (c.params-to_sql.ensures, c.params-to_sql-2.ensures) at (c.all_rows-rows.ensures.rows clean)), c.all_rows-rows.ensures.calm find_token_is_query, c.all_rows-rows.ensures.survives find_token_is_query) c.read_only.ensures
    (λ t holds shown. find_token_none _ _ t holds c.args.org.now c.args.digest.now shown)
    (λ t holds row b shown is. find_token_one _ _ t holds c.args.org.now c.args.digest.now row b shown is)
