-- Where a list of tables begins: a database holds none of them.
use Rattle.std.specs.Prelude.{[]}
use Rattle.sqlite.specs.Effect.{Database}
use Rattle.statements.specs.Tables.{HoldsAll}

pub none_made : (db : Database) → HoldsAll db []
none_made db = record { own = record { own = tt; apart = tt }; rows = tt }
