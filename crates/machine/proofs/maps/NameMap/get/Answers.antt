use Rattle.std.proofs.Common.{arith}
use Rattle.machine.proofs.MapLemmas.{got_at, none_at_gap, index_within}
use Rattle.machine.proofs.maps.NameMap.get.Goals as goal

pub index-requires : goal.index-requires
index-requires g c = omega (arith, index_within _ _ _ c.self.view_is c.self.invariant _ _ c.in-Ok.ensures.found)

pub returns-in-Ok : goal.returns-in-Ok
returns-in-Ok g c = got_at _ _ _ c.self.view_is c.self.invariant _ _ c.in-Ok.ensures.found _ c.index.ensures

pub returns-in-Err : goal.returns-in-Err
returns-in-Err g c = none_at_gap _ _ _ c.in-Err.ensures.absent
