use Rattle.statements.proofs.Transactions.{writes_by}
use Rattle.statements.proofs.RunWrites.{record_action_does}
use Rattle.statements.proofs.runs.record_action.Goals as goal

pub returns : goal.returns
returns g c =
    writes_by _ _ (c.write.ensures.same_reference, (λ clean inside. rw (c.action_number-action.ensures) at (rw (c.params-to_sql.ensures, c.params-to_sql-2.ensures, c.params-to_sql-3.ensures, c.params-to_sql-4.ensures, c.params-to_sql-5.ensures, c.get-run.ensures.value, c.status_number-status.ensures) at (c.write.ensures.runs clean inside))), c.write.ensures.survives)
    (λ count t holds. record_action_does _ _ count t holds c.args.org.now c.args.ws.now c.args.run c.args.status c.args.action)
