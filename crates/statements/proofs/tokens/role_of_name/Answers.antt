use Rattle.statements.specs.Calls.{IsRole}
use Rattle.statements.proofs.Transactions.{queries_by}
use Rattle.statements.proofs.TokenTexts.{named_token_role_asks}
use Rattle.statements.proofs.TokenReads.{named_token_role_shows}
use Rattle.statements.proofs.tokens.role_of_name.Goals as goal

pub returns : goal.returns
returns g c =
    queries_by IsRole _ _ _ (c.first_row-row.ensures.mode, (λ clean. rw (c.params-to_sql.ensures, c.params-to_sql-2.ensures) at (c.first_row-row.ensures.row named_token_role_asks.is_query clean)), c.first_row-row.ensures.calm named_token_role_asks.is_query, c.first_row-row.ensures.survives named_token_role_asks.is_query) c.read_one.ensures
    (λ t holds row first. named_token_role_shows _ _ t holds c.args.org.now c.args.name.now row first)
