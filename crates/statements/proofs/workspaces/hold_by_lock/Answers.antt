use Rattle.basis.specs.declared.rows.Holder.TheVariants.{Lock}
use Rattle.statements.proofs.Transactions.{writes_by}
use Rattle.statements.proofs.WsWrites.{hold_does}
use Rattle.statements.proofs.workspaces.hold_by_lock.Goals as goal

pub returns : goal.returns
returns g c =
    writes_by _ _ (c.write.ensures.same_reference, (λ clean inside. rw (c.params-to_sql.ensures, c.params-to_sql-2.ensures, c.params-to_sql-3.ensures, c.params-to_sql-4.ensures, c.params-to_sql-5.ensures, c.params-to_sql-6.ensures, c.as_str-id.ensures) at (c.write.ensures.runs clean inside)), c.write.ensures.survives)
    (λ count t holds. hold_does _ _ count t holds c.args.org.now c.args.name.now (Lock c.args.id.now c.args.text.now))
