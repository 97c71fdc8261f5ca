use Rattle.statements.proofs.Transactions.{writes_by}
use Rattle.statements.proofs.RunWrites.{set_run_status_does}
use Rattle.statements.proofs.runs.set_status.Goals as goal

pub returns : goal.returns
returns g c =
    writes_by _ _ (c.write.ensures.same_reference, (λ clean inside. rw (c.params-to_sql.ensures, c.params-to_sql-2.ensures, c.params-to_sql-3.ensures, c.params-to_sql-4.ensures, c.get-run.ensures.value, c.status_number-status.ensures) at (c.write.ensures.runs clean inside)), c.write.ensures.survives)
    (λ count t holds. set_run_status_does _ _ count t holds c.args.org.now c.args.ws.now c.args.run c.args.status)
