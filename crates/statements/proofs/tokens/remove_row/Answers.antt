use Rattle.statements.proofs.Transactions.{writes_where}
use Rattle.statements.proofs.TokenWrites.{remove_token_does}
use Rattle.statements.proofs.tokens.remove_row.Goals as goal

pub returns : goal.returns
returns g c =
    writes_where _ _ (c.write.ensures.same_reference, (λ clean inside. rw (c.params-to_sql.ensures, c.params-to_sql-2.ensures) at (c.write.ensures.runs clean inside)), c.write.ensures.survives)
    (λ count t holds none. remove_token_does _ _ count t holds c.args.org.now c.args.name.now none)
