-- The versions of the schema: what a database of each holds, and the records that it denotes.
use Rattle.std.specs.Prelude.{◌≡◌, ℕ, true, false, List, Option}
use Rattle.std.specs.List.{list_any}
use Rattle.sqlite.specs.Effect.{Database}
use Rattle.machine.specs.declared.records.Organization.{Organization}
use Rattle.statements.specs.Making.{KeepsForeign}
use Rattle.statements.specs.Tables.{Tables, HoldsIn, is_known, schema_tables, later_tables, tables_at}
use Rattle.tables.specs.Records.{record_of}
use Rattle.tables.specs.Sound.{IsSoundIn}
use Rattle.tables.specs.Stores.{is_in_schema}

-- The database has the tables of the version and none that later versions added; each of their rows is one of its table, and together they
-- are sound.
pub record HoldsSchema (n : ℕ) (db : Database) : Type 0 where
  pub known : is_known n ≡ true
  pub holds : HoldsIn n db (tables_at n db)
  pub alone : list_any (is_in_schema db.schema) (later_tables n) ≡ false
  pub sound : IsSoundIn n (tables_at n db)

-- the record of each organization, by the rows of a database of a version: if the version lacks a table, no token has bounds, or each
-- workspace keeps as many versions as a new one
abbrev pub schema_records : ℕ → Database → List ℕ → Option Organization
schema_records n db = record_of (tables_at n db)

-- A database of a version has become one of another version, with the same records and the same pages.
pub record Becomes (from to : ℕ) (old new : Database) : Type 0 where
  pub holds : HoldsSchema from old → HoldsSchema to new
  pub records : HoldsSchema from old → (org : List ℕ) → schema_records to new org ≡ schema_records from old org
  pub pages : HoldsSchema from old → (tables_at to new).pages ≡ (tables_at from old).pages

-- The tables of a version, sound or not, have become those of another version, and other tables beside them keep their places, and their
-- rows as `KeepsForeign` says.
pub record KeepsBeside (from to : ℕ) (old new : Database) : Type 0 where
  pub holds : (t : Tables) → HoldsIn from old t → (u : Tables) × HoldsIn to new u
  pub foreign : (t : Tables) → HoldsIn from old t → KeepsForeign (schema_tables from) (schema_tables to) old new
