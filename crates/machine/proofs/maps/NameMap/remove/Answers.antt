use Rattle.std.proofs.Common.{arith, sym, ap, is_some}
use Rattle.machine.proofs.MapLemmas.{index_within, got_at, removed_in_order, removed_at, remove_absent, none_at_gap}
use Rattle.machine.proofs.maps.NameMap.remove.Goals as goal

pub remove-requires : goal.remove-requires
remove-requires g c = omega (arith, index_within _ _ _ c.self.view_is c.self.invariant _ _ c.in-Ok.ensures.found)

pub invariant_of-self : goal.invariant_of-self
invariant_of-self g c = rw c.remove.ensures.items (removed_in_order _ _ _ c.self.view_is c.self.invariant _ _ c.in-Ok.ensures.found c.remove.result)

pub returns-in-Ok-clause-removed : goal.returns-in-Ok-clause-removed
returns-in-Ok-clause-removed g c = rw c.remove.ensures.items (removed_at _ _ _ c.self.view_is c.self.invariant _ _ c.in-Ok.ensures.found c.remove.result)

pub returns-in-Ok-clause-there : goal.returns-in-Ok-clause-there
returns-in-Ok-clause-there g c = ap is_some (got_at _ _ _ c.self.view_is c.self.invariant _ _ c.in-Ok.ensures.found _ c.remove.ensures.value)

pub returns-in-Err-clause-removed : goal.returns-in-Err-clause-removed
returns-in-Err-clause-removed g c = sym (remove_absent _ _ (sym (none_at_gap _ _ _ c.in-Err.ensures.absent)))

pub returns-in-Err-clause-there : goal.returns-in-Err-clause-there
returns-in-Err-clause-there g c = ap is_some (none_at_gap _ _ _ c.in-Err.ensures.absent)
