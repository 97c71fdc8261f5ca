-- Contracts between functions. Nobody has to believe this file: the definitions beside it say what public functions promise.
use Rattle.std.specs.Prelude.{◌≡◌, ◌⊎◌, ℕ, ◌^◌, ◌==◌, nat_le, nat_lt, true, false, List, [], ◌∷◌, ◌++◌, find, slice_get, Some}
use Rattle.sqlite_schema.specs.declared.schema.Schema.{Schema}
use Rattle.sqlite_schema.specs.declared.schema.Table.{Table}
use Rattle.sqlite_schema.specs.Names.{table_named}
use Rattle.statements.specs.Place.{at_of, tree_of, IsOwn}

-- the schema's table with this name has the same definition
pub record IsFound (s : Schema) (table : Table) : Type 0 where
  pub named : table_named s table.name ≡ Some (at_of s table.name)
  pub found : slice_get s.tables (at_of s table.name) ≡ Some (record table { tree = tree_of s table.name })

-- the first table with this tree has the same definition
abbrev pub IsFirst : List Table → ℕ → Table → Type 0
IsFirst tables tree table = find (λ (t : Table). t.tree == tree) tables ≡ Some (record table { tree = tree })

-- the tree is not that of a computed table
pub record IsKept (tree : ℕ) : Type 0 where
  pub low : nat_le (2 ^ 31) tree ≡ false
  pub small : nat_lt tree (2 ^ 31) ≡ true

-- the table's name is added after the others unless the schema has the table as it is defined
abbrev pub NamesOther : Schema → Table → List (List ℕ) → List (List ℕ) → Type 0
NamesOther s table old new = (IsOwn s table × (new ≡ old)) ⊎ ((¬ IsOwn s table) × (new ≡ old ++ table.name ∷ []))
