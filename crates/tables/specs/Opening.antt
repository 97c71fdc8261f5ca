-- When a store is sound, and which of our tables a database has.
use Rattle.std.specs.Prelude.{◌≡◌, ◌≢◌, ◌==◌, ◌<◌, ◌⊎◌, ℕ, zero, suc, Bool, true, false, not, ◌&&◌, ◌||◌, List, [], ◌∷◌, codes, slice_get, Option, Some, None, IsTrue}
use Rattle.std.specs.Str.{bytes_eq}
use Rattle.std.specs.List.{list_any, list_all}
use Rattle.sqlite_value.specs.declared.keys.Collation.{Collation}
use Rattle.sqlite_value.specs.declared.keys.Collation.TheVariants.{Binary, NoCase, RTrim}
use Rattle.sqlite_value.specs.declared.value.Value.{Value}
use Rattle.sqlite_value.specs.declared.value.Value.TheVariants as cell
use Rattle.sqlite_schema.specs.declared.schema.Kind.{Kind}
use Rattle.sqlite_schema.specs.declared.schema.Kind.TheVariants.{Integer, Real, Text, Blob, Any}
use Rattle.sqlite_schema.specs.declared.schema.Column.{Column}
use Rattle.sqlite_schema.specs.declared.schema.Schema.{Schema}
use Rattle.sqlite_schema.specs.declared.schema.Table.{Table}
use Rattle.sqlite_schema.specs.Names.{table_named}
use Rattle.sqlite.specs.Effect.{Database}
use Rattle.sqlite.specs.State.{State}
use Rattle.statements.specs.Schema.{meta_table, version_table, edition_table}
use Rattle.statements.specs.Rows.{Kept}
use Rattle.statements.specs.Making.{HasMeta, stored_schema_version, schema_version_in, HasEdition, edition_in}
use Rattle.statements.specs.declared.making.TheConstants.{SCHEMA_VERSION}
use Rattle.statements.specs.Tables.{Tables, HoldsIn, is_known, schema_tables, later_tables, our_tables, tables_of}
use Rattle.tables.specs.declared.memo.Memo.{Memo}
use Rattle.tables.specs.Remembered.{IsRemembered, nothing_kept}
use Rattle.tables.specs.Stores.{IsSoundStore, is_in_schema}
use Rattle.tables.specs.Versions.{Becomes, KeepsBeside}

-- The database that was last seen is sound. As long as no disk error has closed the connection, it is what the connection has committed.
-- What is kept in memory is correct for its tables.
pub record IsSoundKeep (seen : Database) (memo : Memo) (s : State) : Type 0 where
  pub store : IsSoundStore seen
  pub remembered : IsRemembered (tables_of seen) memo
  pub tied : IsTrue s.is_open → s.committed ≡ seen

-- A store just after opening: it has seen what its connection has committed, and it has nothing in memory.
pub record IsFresh (seen : Database) (memo : Memo) (s : State) : Type 0 where
  pub committed : s.committed ≡ seen
  pub forgotten : memo ≡ nothing_kept

-- whether the schema has one of our tables
abbrev pub any_there : Schema → Bool
any_there s = list_any (is_in_schema s) our_tables

-- whether our tables in the schema are those of a version: all of them, and none that a later version added
abbrev pub all_there : ℕ → Schema → Bool
all_there n s = is_known n && (list_all (is_in_schema s) (schema_tables n) && not (list_any (is_in_schema s) (later_tables n)))

abbrev pub newest_there : Schema → Bool
newest_there = all_there SCHEMA_VERSION

-- whether they are those of a version from the second up to this one
abbrev pub later_there : ℕ → Schema → Bool
later_there zero s = false
later_there (suc zero) s = false
later_there (suc (suc n)) s = later_there (suc n) s || all_there (suc (suc n)) s

-- whether edition has the version of these tables
abbrev pub has_edition : Schema → Bool
has_edition = later_there SCHEMA_VERSION

-- ---- whether the tables that store the version have the columns of ours

abbrev pub is_integer : Kind → Bool
is_integer Integer = true
is_integer Real = false
is_integer Text = false
is_integer Blob = false
is_integer Any = false

abbrev pub is_null : Value → Bool
is_null cell.Null = true
is_null (cell.Int n) = false
is_null (cell.Real x) = false
is_null (cell.Text b) = false
is_null (cell.Blob b) = false

abbrev pub is_binary : Collation → Bool
is_binary Binary = true
is_binary NoCase = false
is_binary RTrim = false

-- a column with this name that allows only integers
abbrev pub is_integer_column : Column → List ℕ → Bool
is_integer_column c name = (c.is_strict && is_integer c.kind) && bytes_eq c.name name

-- no default, and the binary collation
abbrev pub is_plain_column : Column → Bool
is_plain_column c = is_null c.default && is_binary c.collation

abbrev pub has_schema_version_columns : List Column → Bool
has_schema_version_columns (one ∷ version ∷ []) =
    ((is_integer_column one (codes "one") && is_plain_column one) && not one.not_null) && ((is_integer_column version (codes "version") && is_plain_column version) && version.not_null)
has_schema_version_columns _ = false

-- the first column is the rowid
abbrev pub is_first_key : Option ℕ → Bool
is_first_key None = false
is_first_key (Some at) = at == 0

abbrev pub has_none : List ℕ → Bool
has_none [] = true
has_none (x ∷ xs) = false

abbrev pub is_meta_table : Table → Bool
is_meta_table t = (is_first_key t.key && has_none t.computed) && has_schema_version_columns t.columns

abbrev pub is_meta_in : Option Table → Bool
is_meta_in None = false
is_meta_in (Some t) = is_meta_table t

abbrev pub is_meta_at : Schema → Option ℕ → Bool
is_meta_at s None = false
is_meta_at s (Some at) = is_meta_in (slice_get s.tables at)

-- the table meta has the columns of ours, whatever else it is
abbrev pub is_meta : Schema → Bool
is_meta s = is_meta_at s (table_named s meta_table.name)

-- the table edition has the columns of ours, which are those of meta, whatever else it is
abbrev pub is_edition : Schema → Bool
is_edition s = is_meta_at s (table_named s edition_table.name)

-- ---- whether the table version has the columns of ours

-- columns with these names, in this order, and no others
abbrev pub have_names : List (List ℕ) → List Column → Bool
have_names [] [] = true
have_names (name ∷ names) (c ∷ columns) = bytes_eq c.name name && have_names names columns
have_names _ _ = false

-- the columns of a version's row: the size of its text, but not the text
abbrev pub version_names : List (List ℕ)
version_names = codes "org" ∷ codes "ws" ∷ codes "number" ∷ codes "serial" ∷ codes "lineage" ∷ codes "created" ∷ codes "size" ∷ []

abbrev pub has_versions_in : Option Table → Bool
has_versions_in None = false
has_versions_in (Some t) = have_names version_names t.columns

abbrev pub has_versions_at : Schema → Option ℕ → Bool
has_versions_at s None = false
has_versions_at s (Some at) = has_versions_in (slice_get s.tables at)

-- the table version has columns with the names of ours, whatever else it is
abbrev pub has_versions : Schema → Bool
has_versions s = has_versions_at s (table_named s version_table.name)

-- ---- whether an open would upgrade the tables, by the schema alone

-- the tables that store the version, and version, have the columns of ours
abbrev pub has_our_columns : Schema → Bool
has_our_columns s = (is_meta s && has_versions s) && (not (has_edition s) || is_edition s)

-- whether our tables are those of a version before this one
abbrev pub older_there : ℕ → Schema → Bool
older_there zero s = false
older_there (suc n) s = older_there n s || all_there n s

-- they are those of a version before the newest, and have our columns
abbrev pub has_older : Schema → Bool
has_older s = has_our_columns s && older_there SCHEMA_VERSION s

-- ---- where the version is stored

-- the version in meta, for tables of the first version; the version in edition, for those of each later one
abbrev pub stored_in : ℕ → Tables → Option ℕ
stored_in zero t = None
stored_in (suc zero) t = schema_version_in t
stored_in (suc (suc n)) t = edition_in t

-- A database that has the tables of this version stores this version.
abbrev pub StoresVersionIn : ℕ → Database → Type 0
StoresVersionIn n db = (t : Tables) → HoldsIn n db t → stored_in n t ≡ Some n

abbrev pub EditionStores : ℕ → Database → Type 0
EditionStores n db = (table : Table) (editions : List (Kept ℕ)) → HasEdition db table editions → stored_schema_version editions ≡ Some n

-- the same, whatever else the table is that stores it
abbrev pub StoredBy : ℕ → Database → Type 0
StoredBy zero db = ⊥
StoredBy (suc zero) db = (table : Table) (metas : List (Kept ℕ)) → HasMeta db table metas → stored_schema_version metas ≡ Some 1
StoredBy (suc (suc n)) db = EditionStores (suc (suc n)) db

-- The database stores no version, or another version than that of the tables that it has.
abbrev pub IsOther : State → Type 0
IsOther s = (n : ℕ) → all_there n s.now.schema ≡ true → (t : Tables) → HoldsIn n s.now t → stored_in n t ≢ Some n

-- ---- what is returned if the database was not opened

-- A database of a version has become one of a later version, but not of the newest, with the same records.
pub record IsOnTheWay (old new : Database) : Type 0 where
  pub from : ℕ
  pub to : ℕ
  pub later : from < to
  pub most : to < SCHEMA_VERSION
  pub there : all_there from old.schema ≡ true
  pub becomes : Becomes from to old new
  pub beside : KeepsBeside from to old new

-- the rows are unchanged, or the database was upgraded to a version before the newest
pub record GivesBack (old new : State) : Type 0 where
  pub was_open : IsTrue new.is_open → IsTrue old.is_open
  pub committed : IsTrue new.is_open → (new.committed ≡ old.committed) ⊎ IsOnTheWay old.committed new.committed
