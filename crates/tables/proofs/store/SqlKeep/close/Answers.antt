use Rattle.tables.proofs.Outside.{ap, Database}
use Rattle.tables.specs.Stores.{records_of}
use Rattle.tables.proofs.store.SqlKeep.close.Goals as goal

pub returns-clause-rows : goal.returns-clause-rows
returns-clause-rows g c sound is o = ap (λ (db : Database). records_of db o) (sound.tied is)
