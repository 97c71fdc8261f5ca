use Rattle.basis.specs.declared.rows.Holder.TheVariants.{Nobody, Run as HeldByRun}
use Rattle.statements.proofs.Transactions.{writes_by}
use Rattle.statements.proofs.WsWrites.{hold_does}
use Rattle.statements.proofs.workspaces.hold.Goals as goal

pub returns-in-Nobody : goal.returns-in-Nobody
returns-in-Nobody g c = rw c.in-Nobody.is
    (writes_by _ _ (c.write.ensures.same_reference, (λ clean inside. rw (c.params-to_sql.ensures, c.params-to_sql-in-Nobody.ensures, c.params-to_sql-in-Nobody-2.ensures, c.params-to_sql-in-Nobody-3.ensures, c.params-to_sql-in-Nobody-4.ensures, c.params-to_sql-in-Nobody-5.ensures) at (c.write.ensures.runs clean inside)), c.write.ensures.survives)
    (λ count t holds. hold_does _ _ count t holds c.args.org.now c.args.name.now Nobody))

pub returns-in-Lock : goal.returns-in-Lock
returns-in-Lock g c = rw c.in-Lock.is (rw c.as_slice.ensures at c.hold_by_lock.ensures)

pub returns-in-Run : goal.returns-in-Run
returns-in-Run g c = rw c.in-Run.is
    (writes_by _ _ (c.write-in-Run.ensures.same_reference, (λ clean inside. rw (c.params-to_sql-in-Run.ensures, c.params-to_sql-in-Run-2.ensures, c.params-to_sql-in-Run-3.ensures, c.params-to_sql-in-Run-4.ensures, c.params-to_sql-in-Run-5.ensures, c.params-to_sql-in-Run-6.ensures, c.get-run.ensures.value) at (c.write-in-Run.ensures.runs clean inside)), c.write-in-Run.ensures.survives)
    (λ count t holds. hold_does _ _ count t holds c.args.org.now c.args.name.now (HeldByRun c.in-Run.run')))
