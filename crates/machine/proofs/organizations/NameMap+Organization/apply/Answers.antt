use Rattle.machine.proofs.Outside.{arith, refl, ◌∙◌, on_ok_weaker}
use Rattle.machine.proofs.MapLemmas.{index_within, got_at, changed_in_order, changed_own, changed_other, none_at_gap}
use Rattle.machine.proofs.PlainLemmas.{organization_changed}
use Rattle.machine.proofs.organizations.NameMap+Organization.apply.Goals as goal

pub index_mut-requires : goal.index_mut-requires
index_mut-requires c = omega (arith, index_within _ _ _ c.self.view_is c.self.invariant _ _ c.in-Ok.ensures.found)

pub invariant_of-self : goal.invariant_of-self
invariant_of-self c = changed_in_order _ _ _ c.self.view_is c.self.invariant _ _ c.in-Ok.ensures.found _ c.index_mut.ensures.value _ refl

pub returns-in-Ok-clause-own : goal.returns-in-Ok-clause-own
returns-in-Ok-clause-own c =
    let was = got_at _ _ _ c.self.view_is c.self.invariant _ _ c.in-Ok.ensures.found _ c.index_mut.ensures.value in
    on_ok_weaker c.apply.result (λ is. changed_own _ _ _ c.self.view_is c.self.invariant _ _ c.in-Ok.ensures.found _ c.index_mut.ensures.value _ refl ∙ organization_changed _ _ _ c.args.change.now _ _ was is) c.apply.ensures.ok

pub returns-in-Ok-clause-others : goal.returns-in-Ok-clause-others
returns-in-Ok-clause-others c = changed_other _ _ _ c.self.view_is c.self.invariant _ _ c.in-Ok.ensures.found _ c.index_mut.ensures.value _ refl

pub returns-in-Err-clause-own : goal.returns-in-Err-clause-own
returns-in-Err-clause-own c = rw (← none_at_gap _ _ _ c.in-Err.ensures.absent) refl
