use Rattle.statements.specs.Calls.{IsRole}
use Rattle.statements.proofs.Transactions.{queries_by}
use Rattle.statements.proofs.TokenTexts.{token_role_asks}
use Rattle.statements.proofs.TokenReads.{token_role_shows}
use Rattle.statements.proofs.tokens.role_of_digest.Goals as goal

pub returns : goal.returns
returns g c =
    queries_by IsRole _ _ _ (c.first_row-row.ensures.mode, (λ clean. rw (c.params-to_sql.ensures, c.params-to_sql-2.ensures) at (c.first_row-row.ensures.row token_role_asks.is_query clean)), c.first_row-row.ensures.calm token_role_asks.is_query, c.first_row-row.ensures.survives token_role_asks.is_query) c.read_one.ensures
    (λ t holds row first. token_role_shows _ _ t holds c.args.org.now c.args.digest.now row first)
