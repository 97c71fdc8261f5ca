-- Which tables a schema lacks, or defines differently.
use Rattle.std.specs.Prelude.{◌≡◌, ◌⊎◌, ℕ, List, Contains}
use Rattle.sqlite_schema.specs.declared.schema.Schema.{Schema}
use Rattle.sqlite_schema.specs.declared.schema.Table.{Table}
use Rattle.statements.specs.Place.{IsOwn}

-- One of these tables has this name, and the schema lacks it or defines it differently.
pub record IsOther (s : Schema) (tables : List Table) (name : List ℕ) : Type 0 where
  pub table : Table
  pub listed : Contains tables table
  pub named : table.name ≡ name
  pub other : ¬ IsOwn s table

-- The schema has the table as it is defined, or the table's name is one of these.
abbrev pub IsOwnOrNamed : Schema → List (List ℕ) → Table → Type 0
IsOwnOrNamed s names table = IsOwn s table ⊎ Contains names table.name
