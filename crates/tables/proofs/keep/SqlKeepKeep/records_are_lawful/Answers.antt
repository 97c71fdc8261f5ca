use Rattle.sqlite.specs.Held.{state}
use Rattle.tables.proofs.Stores.{store_is_lawful}
use Rattle.tables.proofs.keep.SqlKeepKeep.records_are_lawful.Goals as goal

pub returns : goal.returns
returns g c clean sound = store_is_lawful (state g.S.Store c.args.self.now.seen.value).committed sound.store
