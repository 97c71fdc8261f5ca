use Rattle.std.proofs.Common.{arith, refl, sym, ap, ◌∙◌}
use Rattle.std.specs.FinMap.{insert as map_insert}
use Rattle.machine.proofs.MapLemmas.{index_within, gap_within, changed_in_order, changed_at, inserted_at}
use Rattle.machine.proofs.maps.NameMap.insert.Goals as goal

pub index_mut-requires : goal.index_mut-requires
index_mut-requires g c = omega (arith, index_within _ _ _ c.self.view_is c.self.invariant _ _ c.in-Ok.ensures.found)

pub invariant_of-self : goal.invariant_of-self
invariant_of-self g c = changed_in_order _ _ _ c.self.view_is c.self.invariant _ _ c.in-Ok.ensures.found _ c.index_mut.ensures.value _ refl

pub insert-requires : goal.insert-requires
insert-requires g c = omega (arith, gap_within _ _ _ c.self.view_is c.self.invariant _ _ c.in-Err.ensures.absent)

pub invariant_of-self-in-Continue-1 : goal.invariant_of-self-in-Continue-1
invariant_of-self-in-Continue-1 g c = rw c.in_ok-insert-in-Err.ensures.items (inserted_at _ _ _ c.self.view_is c.self.invariant _ _ _ c.in-Err.ensures.absent (sym c.as_str.ensures)).sorted

pub returns-in-Ok-clause-ok : goal.returns-in-Ok-clause-ok
returns-in-Ok-clause-ok g c = changed_at _ _ _ c.self.view_is c.self.invariant _ _ c.in-Ok.ensures.found _ c.index_mut.ensures.value _ refl ∙ ap (λ name. map_insert c.args.self.now name c.args.value) c.as_str.ensures

pub returns-in_ok-insert-in-Err-clause-ok : goal.returns-in_ok-insert-in-Err-clause-ok
returns-in_ok-insert-in-Err-clause-ok g c =
    rw c.in_ok-insert-in-Err.ensures.items ((inserted_at _ _ _ c.self.view_is c.self.invariant _ _ _ c.in-Err.ensures.absent (sym c.as_str.ensures)).inserted ∙ ap (λ name. map_insert c.args.self.now name c.args.value) c.as_str.ensures)
