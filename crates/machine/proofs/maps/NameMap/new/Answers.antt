use Rattle.machine.proofs.MapLemmas.{made_of_none}
use Rattle.machine.proofs.maps.NameMap.new.Goals as goal

pub returns : goal.returns
returns g c = rw c.new.ensures.items made_of_none
