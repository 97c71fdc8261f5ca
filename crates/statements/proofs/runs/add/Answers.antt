use Rattle.statements.proofs.Outside.{pos, w64, option_map, to_z-of_z}
use Rattle.statements.proofs.Codes.{moment_fits, optional_text, bound_text, optional_action, bound_action}
use Rattle.statements.proofs.Transactions.{writes_by}
use Rattle.statements.proofs.RunWrites.{add_run_does}
use Rattle.statements.proofs.runs.add.Goals as goal

pub returns : goal.returns
returns g c =
    writes_by _ _ (c.write.ensures.same_reference, (λ clean inside. rw (c.optional_action_number-action.ensures, optional_action c.args.action, bound_action c.args.action) at (rw (optional_text c.args.key, bound_text (option_map (λ s. s.now) c.args.key), c.seconds-created.ensures.number, to_z-of_z w64 (pos c.args.created) (moment_fits c.args.created c.seconds-created.ensures.most), c.status_number-status.ensures) at (rw (c.params-to_sql.ensures, c.params-to_sql-2.ensures, c.params-to_sql-3.ensures, c.params-to_sql-4.ensures, c.params-to_sql-5.ensures, c.params-to_sql-6.ensures, c.params-to_sql-7.ensures, c.params-to_sql-8.ensures, c.params-to_sql-9.ensures, c.get-number.ensures.value) at (c.write.ensures.runs clean inside)))), c.write.ensures.survives)
    (λ count t holds. add_run_does _ _ count t holds c.args.org.now c.args.ws.now c.args.number c.args.plan_only (option_map (λ s. s.now) c.args.key) c.args.message.now c.args.created c.args.status c.args.action)
