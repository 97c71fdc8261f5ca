-- Where a schema has a table, whatever other tables, indexes and views it has.
use Rattle.std.specs.Prelude.{◌≡◌, ◌≢◌, ◌^◌, ◌&&◌, ℕ, nat_le, nat_lt, Bool, true, false, List, ◌==◌, find, slice_get, Some, option_map, unwrap_or}
use Rattle.std.specs.List.{AllByRecursion}
use Rattle.sqlite_trees.specs.Tree.{IsAscending}
use Rattle.sqlite_schema.specs.declared.schema.Action.{Action}
use Rattle.sqlite_schema.specs.declared.schema.Action.TheVariants.{NoAction, Restrict, Cascade, SetNull, SetDefault}
use Rattle.sqlite_schema.specs.declared.schema.Reference.{Reference}
use Rattle.sqlite_schema.specs.declared.schema.Schema.{Schema}
use Rattle.sqlite_schema.specs.declared.schema.Table.{Table}
use Rattle.sqlite_schema.specs.Names.{table_named}

-- the place of the table with this name
abbrev pub at_of : Schema → List ℕ → ℕ
at_of s name = unwrap_or (table_named s name) 0

-- the tree of that table: the number of the B-tree that stores its rows
abbrev pub tree_of : Schema → List ℕ → ℕ
tree_of s name = unwrap_or (option_map (λ (t : Table). t.tree) (slice_get s.tables (at_of s name))) 0

-- The schema's table with this name is at this place and has this tree. The tree is not that of a computed table.
pub record StandsAt (s : Schema) (name : List ℕ) (table : Table) (at tree : ℕ) : Type 0 where
  pub named : table_named s name ≡ Some at
  pub found : slice_get s.tables at ≡ Some (record table { tree = tree })
  pub treed : find (λ (t : Table). t.tree == tree) s.tables ≡ Some (record table { tree = tree })
  pub low : nat_le (2 ^ 31) tree ≡ false
  pub small : nat_lt tree (2 ^ 31) ≡ true

-- If a row is deleted or its key changes, the rows that refer to it are unchanged, or the change is refused.
abbrev pub is_passive : Action → Bool
is_passive NoAction = true
is_passive Restrict = true
is_passive Cascade = false
is_passive SetNull = false
is_passive SetDefault = false

abbrev pub IsPassive : Reference → Type 0
IsPassive ref = (is_passive ref.on_delete && is_passive ref.on_update) ≡ true

-- no write to another table changes a row of this table
abbrev pub RefersPassively : Table → Type 0
RefersPassively table = AllByRecursion IsPassive table.references

-- The schema has the table under its name, and any table that has the same tree has the same references.
pub record IsOwn (s : Schema) (table : Table) : Type 0 where
  pub place : StandsAt s table.name table (at_of s table.name) (tree_of s table.name)
  pub refers : AllByRecursion (λ (t : Table). t.tree ≡ tree_of s table.name → t.references ≡ table.references) s.tables

-- The schema has each of these tables, and no two have the same tree.
pub record AreOwn (s : Schema) (tables : List Table) : Type 0 where
  pub own : AllByRecursion (IsOwn s) tables
  pub apart : IsAscending (λ (a b : Table). tree_of s a.name ≢ tree_of s b.name) tables
