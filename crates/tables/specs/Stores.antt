-- The records of a database that holds our tables, and when it is sound.
use Rattle.std.specs.Prelude.{ℕ, Bool, is_some, List, Option}
use Rattle.sqlite_schema.specs.declared.schema.Schema.{Schema}
use Rattle.sqlite_schema.specs.declared.schema.Table.{Table}
use Rattle.sqlite_schema.specs.Names.{table_named}
use Rattle.sqlite.specs.Effect.{Database}
use Rattle.machine.specs.declared.records.Organization.{Organization}
use Rattle.statements.specs.Tables.{Holds, tables_of}
use Rattle.tables.specs.Records.{record_of}
use Rattle.tables.specs.Sound.{IsSound}

-- the record of each organization, by the rows that the database has
abbrev pub records_of : Database → List ℕ → Option Organization
records_of db = record_of (tables_of db)

-- The database has our tables, each of their rows is one of its table, and together they are sound.
pub record IsSoundStore (db : Database) : Type 0 where
  pub holds : Holds db (tables_of db)
  pub sound : IsSound (tables_of db)

-- whether the schema has a table with this table's name
abbrev pub is_in_schema : Schema → Table → Bool
is_in_schema s t = is_some (table_named s t.name)
