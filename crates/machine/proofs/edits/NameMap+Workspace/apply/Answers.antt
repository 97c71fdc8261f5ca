use Rattle.machine.proofs.Outside.{arith, refl, sym, ◌∙◌, on_ok_weaker}
use Rattle.machine.proofs.MapLemmas.{index_within, got_at, changed_in_order, changed_at, none_at_gap}
use Rattle.machine.proofs.PlainLemmas.{workspace_changed, absent_kept}
use Rattle.machine.proofs.edits.NameMap+Workspace.apply.Goals as goal

pub index_mut-requires : goal.index_mut-requires
index_mut-requires c = omega (arith, index_within _ _ _ c.self.view_is c.self.invariant _ _ c.in-Ok.ensures.found)

pub invariant_of-self : goal.invariant_of-self
invariant_of-self c = changed_in_order _ _ _ c.self.view_is c.self.invariant _ _ c.in-Ok.ensures.found _ c.index_mut.ensures.value _ refl

pub returns-in-Ok-clause-ok : goal.returns-in-Ok-clause-ok
returns-in-Ok-clause-ok c =
    let was = got_at _ _ _ c.self.view_is c.self.invariant _ _ c.in-Ok.ensures.found _ c.index_mut.ensures.value in
    on_ok_weaker c.change.result (λ is. changed_at _ _ _ c.self.view_is c.self.invariant _ _ c.in-Ok.ensures.found _ c.index_mut.ensures.value _ refl ∙ workspace_changed _ _ c.args.change.now _ _ was (is (sym c.is_removal.ensures ∙ c.if-is_removal.false))) c.change.ensures.ok

-- nothing changes of what isn't there
pub returns-in-Configure-clause-ok : goal.returns-in-Configure-clause-ok
returns-in-Configure-clause-ok c = absent_kept _ _ c.args.change.now (none_at_gap _ _ _ c.in-Err.ensures.absent) (rw c.in-Configure.is refl)

pub returns-in-AddVersion-clause-ok : goal.returns-in-AddVersion-clause-ok
returns-in-AddVersion-clause-ok c = absent_kept _ _ c.args.change.now (none_at_gap _ _ _ c.in-Err.ensures.absent) (rw c.in-AddVersion.is refl)

pub returns-in-Purge-clause-ok : goal.returns-in-Purge-clause-ok
returns-in-Purge-clause-ok c = absent_kept _ _ c.args.change.now (none_at_gap _ _ _ c.in-Err.ensures.absent) (rw c.in-Purge.is refl)

pub returns-in-Hold-clause-ok : goal.returns-in-Hold-clause-ok
returns-in-Hold-clause-ok c = absent_kept _ _ c.args.change.now (none_at_gap _ _ _ c.in-Err.ensures.absent) (rw c.in-Hold.is refl)

pub returns-in-Release-clause-ok : goal.returns-in-Release-clause-ok
returns-in-Release-clause-ok c = absent_kept _ _ c.args.change.now (none_at_gap _ _ _ c.in-Err.ensures.absent) (rw c.in-Release.is refl)

pub returns-in-AddRun-clause-ok : goal.returns-in-AddRun-clause-ok
returns-in-AddRun-clause-ok c = absent_kept _ _ c.args.change.now (none_at_gap _ _ _ c.in-Err.ensures.absent) (rw c.in-AddRun.is refl)

pub returns-in-Report-clause-ok : goal.returns-in-Report-clause-ok
returns-in-Report-clause-ok c = absent_kept _ _ c.args.change.now (none_at_gap _ _ _ c.in-Err.ensures.absent) (rw c.in-Report.is refl)
