use Rattle.statements.proofs.Transactions.{writes_by}
use Rattle.statements.proofs.TokenWrites.{add_token_does}
use Rattle.statements.proofs.tokens.add_row.Goals as goal

pub returns : goal.returns
returns g c =
    writes_by _ _ (c.write.ensures.same_reference, (λ clean inside. rw (c.params-to_sql.ensures, c.params-to_sql-2.ensures, c.params-to_sql-3.ensures, c.params-to_sql-4.ensures, c.role_number-role.ensures) at (c.write.ensures.runs clean inside)), c.write.ensures.survives)
    (λ count t holds. add_token_does _ _ count t holds c.args.org.now c.args.name.now c.args.digest.now c.args.role)
