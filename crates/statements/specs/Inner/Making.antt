-- How tables are created, each by its text, and what is written when a version is upgraded to the next, in a database that may also have
-- other tables.
use Rattle.std.specs.Prelude.{◌≡◌, ◌≢◌, ℕ, pos, true, false, List, [], ◌∷◌, ◌++◌, map, slice_range, Ok}
use Rattle.std.specs.Borrow.{Bor}
use Rattle.std.specs.List.{AllByRecursion}
use Rattle.sqlite_ast.specs.declared.CreateTable.{CreateTable}
use Rattle.sqlite_ast.specs.declared.CreateIndex.{CreateIndex}
use Rattle.sqlite_ast.specs.declared.Statement.TheVariants as written
use Rattle.sqlite_syntax.specs.declared.statement.Parsed.{Parsed}
use Rattle.sqlite_schema.specs.declared.schema.Table.{Table}
use Rattle.sqlite_resolve.specs.Compile.{first, table_defined_by}
use Rattle.sqlite.specs.Effect.{Database}
use Rattle.sqlite_keyed.specs.Keyed.{insert_by}
use Rattle.statements.specs.Place.{tree_of, IsOwn}
use Rattle.statements.specs.Rows.{id_of}
use Rattle.statements.specs.Schema.{edition_table}
use Rattle.statements.specs.Steps.{LeavesBeside}
use Rattle.statements.specs.Tables.{Tables, StoredTable, HoldsAll, HoldsIn, schema_tables}
use Rattle.statements.specs.Making.{bare_table, KeepsTables, NamesNoOther}

-- The tables come after those of ours that were created before, in this order, each without rows and with a tree of its own. Each table
-- that existed before is kept.
pub record Grows (added : List Table) (old new : Database) : Type 0 where
  pub made : (xs : List StoredTable) → HoldsAll old xs → HoldsAll new (xs ++ map bare_table added)
  pub owns : (other : Table) → IsOwn old.schema other → IsOwn new.schema other
  pub kept : KeepsTables old new
  pub apart : AllByRecursion (λ (a : Table). AllByRecursion (λ (t : Table). t.tree ≢ tree_of new.schema a.name) old.schema.tables) added
  pub names : NamesNoOther added old new

-- the text is one statement, the CREATE TABLE of this table
pub record IsTableText (text : List ℕ) (table : Table) : Type 0 where
  pub def : CreateTable
  pub parsed : Parsed
  pub reads : first text ≡ Ok (record parsed { statement = written.CreateTable (record def { if_missing = false }); formats = [] })
  pub whole : slice_range text parsed.start parsed.end ≡ text
  pub defines : table_defined_by text ≡ Ok table

-- the text defines the table
abbrev pub IsDefinedBy : List ℕ → Table → Type 0
IsDefinedBy text table = table_defined_by text ≡ Ok table

-- the text is one statement, a CREATE INDEX IF NOT EXISTS
pub record IsIndexText (text : List ℕ) : Type 0 where
  pub def : CreateIndex
  pub parsed : Parsed
  pub reads : first text ≡ Ok (record parsed { statement = written.CreateIndex (record def { if_missing = true }); formats = [] })
  pub whole : slice_range text parsed.start parsed.end ≡ text

-- the text creates these tables: one, or none if it creates an index
abbrev pub IsMaker : List ℕ → List Table → Type 0
IsMaker text [] = IsIndexText text
IsMaker text (table ∷ []) = IsTableText text table
IsMaker text (table ∷ other ∷ tables) = ⊥

abbrev pub texts_in : List (Bor (List ℕ)) → List (List ℕ)
texts_in texts = map (λ text. text.now) texts

abbrev pub all_of : List (List Table) → List Table
all_of [] = []
all_of (tables ∷ more) = tables ++ all_of more

-- ---- writes in a database that has the tables of a version

-- the function is applied to the rows, and what is not ours is unchanged
pub record Moved (n : ℕ) (change : Tables → Tables) (old new : Database) : Type 0 where
  pub rows : (t : Tables) → HoldsIn n old t → HoldsIn n new (change t)
  pub others : (t : Tables) → HoldsIn n old t → LeavesBeside (schema_tables n) old new

-- edition has this version in its row 1
abbrev pub edition_set : ℕ → Tables → Tables
edition_set version t = record t { editions = insert_by id_of t.editions (pos 1, version) }

-- meta has no version
abbrev pub schema_version_cleared : Tables → Tables
schema_version_cleared t = record t { metas = [] }

-- If the table is one of ours, only its rows change.
abbrev pub LeavesOthers : Table → Database → Database → Type 0
LeavesOthers table old new =
    IsOwn old.schema table → (new.schema ≡ old.schema) × AllByRecursion (λ (t : Table). t.tree ≢ tree_of old.schema table.name → new.trees t.tree ≡ old.trees t.tree) old.schema.tables

-- edition has a version, and the database has the tables of that version
pub record Reported (n : ℕ) (old new : Database) : Type 0 where
  pub moved : Moved n (edition_set n) old new
  pub leaves : LeavesOthers edition_table old new
