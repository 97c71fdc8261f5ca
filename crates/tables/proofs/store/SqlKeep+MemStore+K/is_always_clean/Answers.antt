use Rattle.tables.proofs.KeepMemory.{memory_is_clean}
use Rattle.tables.proofs.store.SqlKeep+MemStore+K.is_always_clean.Goals as goal

pub returns-clause-clean : goal.returns-clause-clean
returns-clause-clean g c = memory_is_clean c.args.self.now.conn
