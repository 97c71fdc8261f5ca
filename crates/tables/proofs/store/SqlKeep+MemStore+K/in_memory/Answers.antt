use Rattle.tables.proofs.KeepMemory.{memory_is_clean, none_there}
use Rattle.tables.proofs.store.SqlKeep+MemStore+K.in_memory.Goals as goal

pub returns-in-Ok-clause-empty : goal.returns-in-Ok-clause-empty
returns-in-Ok-clause-empty g c = ((c.in-Ok.ensures.opened (memory_is_clean c.in-Ok.keep.conn)).fresh (none_there c.in_ok-conn.conn c.in_ok-conn.ensures.empty)).1

pub returns-in-Ok-clause-sound : goal.returns-in-Ok-clause-sound
returns-in-Ok-clause-sound g c = ((c.in-Ok.ensures.opened (memory_is_clean c.in-Ok.keep.conn)).fresh (none_there c.in_ok-conn.conn c.in_ok-conn.ensures.empty)).0

pub returns-in-Ok-clause-keyed : goal.returns-in-Ok-clause-keyed
returns-in-Ok-clause-keyed g c = (c.in-Ok.ensures.opened (memory_is_clean c.in-Ok.keep.conn)).keyed.0 (none_there c.in_ok-conn.conn c.in_ok-conn.ensures.empty)
