use Rattle.statements.proofs.Transactions.{writes_by}
use Rattle.statements.proofs.WsWrites.{set_run_settings_does}
use Rattle.statements.proofs.workspaces.set_run_settings.Goals as goal

pub returns : goal.returns
returns g c =
    writes_by _ _ (c.write.ensures.same_reference, (λ clean inside. rw c.params_of.ensures at (c.write.ensures.runs clean inside)), c.write.ensures.survives)
    (λ count t holds. set_run_settings_does _ _ count t holds c.args.org.now c.args.name.now c.args.runs)
