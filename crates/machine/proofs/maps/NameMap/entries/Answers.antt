use Rattle.std.proofs.Common.{sym}
use Rattle.machine.proofs.MapLemmas.{entries_seen}
use Rattle.machine.proofs.maps.NameMap.entries.Goals as goal

pub returns : goal.returns
returns g c = rw c.as_slice.ensures.value (sym (entries_seen _ _ _ c.self.view_is c.self.invariant))
