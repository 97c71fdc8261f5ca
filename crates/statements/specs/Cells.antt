-- Which cells are read as values, and when reading one fails.
use Rattle.std.specs.Prelude.{◌≡◌, ◌≢◌, ◌⊎◌, ◌+◌, ◌<◌, ℕ, List, length, Bool, true, Some, IsUtf8}
use Rattle.basis.specs.Names.{is_lock_id}
use Rattle.basis.specs.Numbers.{within}
use Rattle.basis.specs.declared.roles.Role.{Role}
use Rattle.basis.specs.declared.runs.RunStatus.{RunStatus}
use Rattle.basis.specs.declared.runs.RunAction.{RunAction}
use Rattle.basis.specs.declared.numbers.TheConstants.{MAX_MOMENT, MAX_NUMBER, MAX_SERIAL}
use Rattle.sqlite_value.specs.declared.value.Value.{Value}
use Rattle.sqlite_value.specs.declared.value.Value.TheVariants as cell
use Rattle.sqlite_value.specs.Order.{Row, column}
use Rattle.sqlite.specs.declared.error.Error.{Error}
use Rattle.sqlite.specs.declared.error.Error.TheVariants.{SqliteFailure}
use Rattle.sqlite.specs.declared.error.ErrorCode.TheVariants.{OutOfMemory}
use Rattle.statements.specs.Rows.{number, flag, role_code, status_code, action_code}

abbrev pub IsTextCell : Value → Type 0
IsTextCell v = (t : List ℕ) × (v ≡ cell.Text t) × IsUtf8 t

abbrev pub IsBlobCell : Value → Type 0
IsBlobCell v = (b : List ℕ) × (v ≡ cell.Blob b)

abbrev pub IsNumberCell : Value → Type 0
IsNumberCell v = (n : ℕ) × (v ≡ number n)

-- a number between two bounds
abbrev pub IsWithin : ℕ → ℕ → Value → Type 0
IsWithin least most v = (n : ℕ) × (v ≡ number n) × (within least most n ≡ Some n)

abbrev pub IsLockIdCell : Value → Type 0
IsLockIdCell v = (t : List ℕ) × (v ≡ cell.Text t) × IsUtf8 t × (is_lock_id t ≡ true)

abbrev pub IsRoleCell : Value → Type 0
IsRoleCell v = (role : Role) × (v ≡ number (role_code role))

abbrev pub IsBooleanCell : Value → Type 0
IsBooleanCell v = (b : Bool) × (v ≡ flag b)

abbrev pub IsStatusCell : Value → Type 0
IsStatusCell v = (status : RunStatus) × (v ≡ number (status_code status))

abbrev pub IsActionCell : Value → Type 0
IsActionCell v = (action : RunAction) × (v ≡ number (action_code action))

abbrev pub IsNullOr : (Value → Type 0) → Value → Type 0
IsNullOr Is v = (v ≡ cell.Null) ⊎ Is v

-- the cells of a version, from this column on
pub record HasVersion (at : ℕ) (row : Row) : Type 0 where
  pub number_is : IsWithin 1 MAX_NUMBER (column row at)
  pub serial : IsWithin 0 MAX_SERIAL (column row (at + 1))
  pub lineage : IsTextCell (column row (at + 2))
  pub created : IsWithin 0 MAX_MOMENT (column row (at + 3))
  pub size : IsNumberCell (column row (at + 4))

-- the cells of a run, from this column on
pub record HasRun (at : ℕ) (row : Row) : Type 0 where
  pub number_is : IsWithin 1 MAX_NUMBER (column row at)
  pub plan_only : IsBooleanCell (column row (at + 1))
  pub key : IsNullOr IsTextCell (column row (at + 2))
  pub message : IsTextCell (column row (at + 3))
  pub created : IsWithin 0 MAX_MOMENT (column row (at + 4))
  pub status : IsStatusCell (column row (at + 5))
  pub action : IsNullOr IsActionCell (column row (at + 6))

-- Reading this column fails only if memory is refused, the row has no such column, or the cell in it is not of this kind.
abbrev pub IsRefused : (Value → Type 0) → Row → ℕ → Error → Type 0
IsRefused Is row at e = e ≢ SqliteFailure OutOfMemory → at < length row → ¬ Is (column row at)

-- The same of these columns, of which the last has this number.
abbrev pub AreRefused : (Row → Type 0) → Row → ℕ → Error → Type 0
AreRefused Has row last e = e ≢ SqliteFailure OutOfMemory → last < length row → ¬ Has row
