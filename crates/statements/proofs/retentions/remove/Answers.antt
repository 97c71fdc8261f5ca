use Rattle.statements.proofs.Transactions.{writes_by}
use Rattle.statements.proofs.RetentionWrites.{remove_retention_does}
use Rattle.statements.proofs.retentions.remove.Goals as goal

pub returns : goal.returns
returns g c =
    writes_by _ _ (c.write.ensures.same_reference, (λ clean inside. rw (c.params-to_sql.ensures, c.params-to_sql-2.ensures) at (c.write.ensures.runs clean inside)), c.write.ensures.survives)
    (λ count t holds. remove_retention_does _ _ count t holds c.args.org.now c.args.ws.now)
