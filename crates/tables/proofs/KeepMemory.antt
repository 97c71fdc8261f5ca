-- A store in memory.
use Rattle.tables.proofs.Outside.{◌≡◌, false, refl, ap, Held, state, HasCleanDisk}
use Rattle.sqlite_trees.specs.View.{doubt}
use Rattle.sqlite_trees.specs.declared.memory.MemStore.{MemStore}
use Rattle.sqlite.specs.Steps.{over_memory, IsEmpty}
use Rattle.tables.specs.Opening.{any_there}

pub memory_is_clean : (h : Held MemStore) → HasCleanDisk (state over_memory h)
unfolding doubt
memory_is_clean h = refl

pub none_there : (h : Held MemStore) → IsEmpty (state over_memory h) → any_there h.schema ≡ false
none_there h empty = ap any_there empty.2
