use Rattle.std.proofs.Common.{map, take}
use Rattle.machine.proofs.MapLemmas.{AreBelow}
use Rattle.machine.proofs.maps.NameMap.index_of.Given as goal

-- the names before the place are below the one that is sought
abbrev pub invariant-loop-i : goal.invariant-loop-i
invariant-loop-i g l = AreBelow l.name (take l.i (map (λ e. (e.name, e.value)) l.self-inside.entries.items))
