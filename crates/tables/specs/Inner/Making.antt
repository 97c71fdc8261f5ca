-- A database that was prepared with the newest version of the schema, or upgraded to it from an earlier version.
use Rattle.std.specs.Prelude.{◌≡◌, ◌≤◌, ◌<◌, ◌+◌, ◌==◌, if◌then◌else◌, ℕ, Bool, true, false, is_some, List, Option, Some, None, IsTrue, Result, OnOk, OnErr}
use Rattle.sqlite_schema.specs.declared.schema.Schema.{Schema}
use Rattle.sqlite_schema.specs.Names.{table_named}
use Rattle.sqlite.specs.State.{State, KeepsCommit}
use Rattle.statements.specs.Making.{HasSchema}
use Rattle.statements.specs.declared.making.TheConstants.{SCHEMA_VERSION}
use Rattle.tables.specs.declared.opening.Found.{Found}
use Rattle.tables.specs.declared.opening.Found.TheVariants.{Nothing, Version, Other}
use Rattle.tables.specs.Opening.{any_there, all_there, StoresVersionIn, StoredBy, IsOther}
use Rattle.tables.specs.Versions.{Becomes, KeepsBeside}

-- all tables were created beside others, and this is committed
pub record IsMade (old new : State) : Type 0 where
  pub schema : HasSchema old.now new.committed
  pub was_open : IsTrue old.is_open
  pub is_open : IsTrue new.is_open

-- ---- what a database has

-- whether the schema has a table with this name
abbrev pub is_there : Schema → List ℕ → Bool
is_there s name = is_some (table_named s name)

-- what is found if the tables of a version exist, with this version or none stored
abbrev pub found_at : ℕ → ℕ → Found
found_at n version = if version == n then Version n else Other

abbrev pub found_in : ℕ → Option ℕ → Found
found_in n None = Other
found_in n (Some version) = found_at n version

-- the tables of this version exist, this version is stored, and no row changes
pub record IsReported (n : ℕ) (old new : State) : Type 0 where
  pub there : all_there n old.now.schema ≡ true
  pub version : StoresVersionIn n old.now
  pub reports : StoredBy n old.now
  pub was_open : IsTrue old.is_open
  pub is_open : IsTrue new.is_open
  pub same : new.committed ≡ old.now
  pub kept : KeepsCommit old new

-- what was found if some of our tables exist
abbrev pub ReportsFound : Found → State → State → Type 0
ReportsFound Nothing old new = ⊥
ReportsFound (Version n) old new = IsReported n old new
ReportsFound Other old new = IsOther old × KeepsCommit old new

-- what was found in a database
abbrev pub FindsOurs : Found → State → State → Type 0
FindsOurs Nothing old new = any_there old.now.schema ≡ false
FindsOurs (Version n) old new = (any_there old.now.schema ≡ true) × IsReported n old new
FindsOurs Other old new = (any_there old.now.schema ≡ true) × IsOther old × KeepsCommit old new

-- ---- from a version to a later one

-- As long as no disk error has closed the connection, it has committed this.
pub record Climbs (from to : ℕ) (old new : State) : Type 0 where
  pub was_open : IsTrue new.is_open → IsTrue old.is_open
  pub becomes : IsTrue new.is_open → Becomes from to old.committed new.committed
  pub beside : IsTrue new.is_open → KeepsBeside from to old.committed new.committed

-- one step to the next version, or none
abbrev pub StepsFrom : {X E : Type 0} → ℕ → State → State → Result X E → Type 0
StepsFrom from old new result = OnOk result (Climbs from (from + 1) old new × IsTrue new.is_open) × OnErr result (KeepsCommit old new)

-- the newest version is reached
pub record IsClimbed (from : ℕ) (old new : State) : Type 0 where
  pub climbs : from ≤ SCHEMA_VERSION → Climbs from SCHEMA_VERSION old new
  pub is_open : IsTrue old.is_open → IsTrue new.is_open

-- A version on the way is reached; if no step was taken, nothing is committed.
pub record IsOnWay (from : ℕ) (old new : State) : Type 0 where
  pub to : ℕ
  pub least : from ≤ to
  pub most : to < SCHEMA_VERSION
  pub climbs : Climbs from to old new
  pub none : to ≡ from → KeepsCommit old new
