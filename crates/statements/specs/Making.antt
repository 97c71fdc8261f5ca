-- How the tables are created, in a database that may also have other tables.
use Rattle.std.specs.Prelude.{◌≡◌, ◌≢◌, ◌≤◌, ℕ, zero, suc, pos, false, List, [], ◌∷◌, ◌++◌, codes, map, IsTrue, Result, OnOk, OnErr, Option, None, option_map}
use Rattle.std.specs.List.{AllByRecursion}
use Rattle.sqlite_schema.specs.declared.schema.Table.{Table}
use Rattle.sqlite_schema.specs.Names.{same_name, table_named}
use Rattle.sqlite_catalog.specs.Change.{KeepsRows}
use Rattle.sqlite_trees.specs.declared.store.Store.{Ghosts}
use Rattle.sqlite_trees.specs.View.{doubt}
use Rattle.sqlite.specs.Effect.{Database}
use Rattle.sqlite.specs.Held.{state}
use Rattle.sqlite.specs.State.{State, HasCleanDisk, KeepsCommit}
use Rattle.sqlite.specs.declared.transaction.Transaction.{Transaction}
use Rattle.sqlite_keyed.specs.Keyed.{IsKeyedBy, get_by}
use Rattle.statements.specs.declared.making.TheConstants.{SCHEMA_VERSION}
use Rattle.statements.specs.Place.{at_of, tree_of, StandsAt, IsOwn, RefersPassively}
use Rattle.statements.specs.Schema.{meta_table, edition_table}
use Rattle.statements.specs.Rows.{Kept, id_of, stored, meta_cells, edition_cells}
use Rattle.statements.specs.Tables.{Tables, Holds, HoldsIn, StoredTable, schema_tables, added_by, no_rows}
use Rattle.statements.specs.Changes.{with_all, unbounded, kept_first}

-- a table without rows
abbrev pub bare_table : Table → StoredTable
bare_table table = record { table = table; rows = [] }

-- Each table that existed before keeps its place and its rows.
pub record KeepsTables (old new : Database) : Type 0 where
  pub more : List Table
  pub tables : new.schema.tables ≡ old.schema.tables ++ more
  pub rows : KeepsRows old.schema.tables old.trees new.trees

-- the table in which SQLite counts rowids, which it may create together with another table
abbrev pub sequence_name : List ℕ
sequence_name = codes "sqlite_sequence"

abbrev pub IsNotNamed : List ℕ → Table → Type 0
IsNotNamed name t = same_name t.name name ≡ false

-- The only new names are those of these tables and that of SQLite's own table.
abbrev pub NamesNoOther : List Table → Database → Database → Type 0
NamesNoOther added old new = (name : List ℕ) → same_name sequence_name name ≡ false → AllByRecursion (IsNotNamed name) added → table_named old.schema name ≡ None → table_named new.schema name ≡ None

-- the schema changes inside the transaction, which stays open
pub record Alters (Change : Database → Database → Type 0) (old new : State) : Type 0 where
  pub change : Change old.now new.now
  pub was_open : IsTrue old.is_open
  pub is_open : IsTrue new.is_open
  pub committed : new.committed ≡ old.committed
  pub inside : IsTrue new.in_transaction

-- if it fails, nothing is committed
abbrev pub AltersBy : {X E : Type 0} → (Database → Database → Type 0) → State → State → Result X E → Type 0
AltersBy Change old new result = HasCleanDisk new → IsTrue old.in_transaction → OnOk result (Alters Change old new) × OnErr result (KeepsCommit old new)

-- What creating tables promises: the transaction is still that of the same connection, the schema changes as said, no fault is forgotten,
-- and a shielded store stays shielded.
pub record MakesBy {S X E : Type 0} (g : Ghosts S) (Change : Database → Database → Type 0) (old new : Transaction S) (result : Result X E) : Type 0 where
  pub same_reference : new.conn.ghost_name ≡ old.conn.ghost_name
  pub made : AltersBy Change (state g old.conn.now) (state g new.conn.now) result
  pub clean : doubt (state g old.conn.now).is_clean ≤ doubt (state g new.conn.now).is_clean
  pub shield : (state g old.conn.now).IsShielded → (state g new.conn.now).IsShielded

-- The database has the newest schema, with no row but that of its version. Each table that existed before is kept.
pub record HasSchema (old new : Database) : Type 0 where
  pub holds : Holds new (record no_rows { editions = (pos 1, SCHEMA_VERSION) ∷ [] })
  pub kept : KeepsTables old new

-- The rows of a version as those of the next. From the first to the second, no token expires, each is for all workspaces, and edition has
-- the version in place of meta. From the second to the third, each workspace keeps as many versions as a new one, and edition has the new
-- version.
abbrev pub raised : ℕ → Tables → Tables
raised (suc zero) t = record t { metas = []; bounds = with_all (map (λ x. unbounded x.1) t.tokens) []; editions = (pos 1, 2) ∷ [] }
raised (suc (suc zero)) t = record t { retentions = with_all (map (λ x. kept_first x.1) t.wss) []; editions = map (λ x. (x.0, 3)) t.editions }
raised n t = t

-- the table's tree is none of the trees of these tables
abbrev pub IsBeside : Database → Table → List Table → Type 0
IsBeside db other tables = AllByRecursion (λ (ours : Table). tree_of db.schema other.name ≢ tree_of db.schema ours.name) tables

-- Some of our tables became others, and each table that is not ours keeps its place and its tree beside them. Its rows are unchanged if its
-- foreign keys have no CASCADE or SET action.
pub record KeepsForeign (before after : List Table) (old new : Database) : Type 0 where
  pub owns : (other : Table) → IsOwn old.schema other → IsOwn new.schema other
  pub stands : (other : Table) → IsOwn old.schema other → (at_of new.schema other.name ≡ at_of old.schema other.name) × (tree_of new.schema other.name ≡ tree_of old.schema other.name)
  pub beside : (other : Table) → IsOwn old.schema other → IsBeside old other before → IsBeside new other after
  pub rows : (other : Table) → IsOwn old.schema other → RefersPassively other → IsBeside old other before → new.trees (tree_of old.schema other.name) ≡ old.trees (tree_of old.schema other.name)

-- The tables of a version became those of the next, no other table but SQLite's own was added, and what is not ours is unchanged.
pub record Raises (n : ℕ) (old new : Database) : Type 0 where
  pub holds : (t : Tables) → HoldsIn n old t → HoldsIn (suc n) new (raised n t)
  pub names : (t : Tables) → HoldsIn n old t → NamesNoOther (added_by (suc n)) old new
  pub foreign : (t : Tables) → HoldsIn n old t → KeepsForeign (schema_tables n) (schema_tables (suc n)) old new

-- the version in row 1 of meta, or of edition
abbrev pub stored_schema_version : List (Kept ℕ) → Option ℕ
stored_schema_version metas = option_map (λ x. x.1) (get_by id_of metas (pos 1))

abbrev pub schema_version_in : Tables → Option ℕ
schema_version_in t = stored_schema_version t.metas

-- a table with the name and the columns of meta, whatever its checks, references and unique keys are
abbrev pub like_meta : Table → Table
like_meta t = record t { name = meta_table.name; columns = meta_table.columns; key = meta_table.key; computed = meta_table.computed }

-- The database's table meta is such a table and has these rows, in the order of their rowids, whatever else the database has.
pub record HasMeta (db : Database) (table : Table) (metas : List (Kept ℕ)) : Type 0 where
  pub place : StandsAt db.schema meta_table.name (like_meta table) (at_of db.schema meta_table.name) (tree_of db.schema meta_table.name)
  pub rows : db.trees (tree_of db.schema meta_table.name) ≡ map (stored meta_cells) metas
  pub keyed : IsKeyedBy id_of metas

-- ---- the same of edition

abbrev pub edition_in : Tables → Option ℕ
edition_in t = stored_schema_version t.editions

-- a table with the name and the columns of edition, whatever its checks, references and unique keys are
abbrev pub like_edition : Table → Table
like_edition t = record t { name = edition_table.name; columns = edition_table.columns; key = edition_table.key; computed = edition_table.computed }

-- The database's table edition is such a table and has these rows, in the order of their rowids, whatever else the database has.
pub record HasEdition (db : Database) (table : Table) (editions : List (Kept ℕ)) : Type 0 where
  pub place : StandsAt db.schema edition_table.name (like_edition table) (at_of db.schema edition_table.name) (tree_of db.schema edition_table.name)
  pub rows : db.trees (tree_of db.schema edition_table.name) ≡ map (stored edition_cells) editions
  pub keyed : IsKeyedBy id_of editions
