-- What a statement does: it applies a function to the rows of our tables, or reads a value from them.
use Rattle.std.specs.Prelude.{◌≡◌, ◌≢◌, ◌⊎◌, ⊤, false, List, IsTrue, Result, IfOk, OnOk, OnErr}
use Rattle.std.specs.List.{AllByRecursion}
use Rattle.sqlite_trees.specs.declared.store.Store.{Ghosts}
use Rattle.sqlite.specs.Held.{Held, state}
use Rattle.sqlite.specs.State.{State, HasCleanDisk, IsUnchanged, IsRolledBack, KeepsCommit, Survives}
use Rattle.sqlite.specs.declared.transaction.Transaction.{Transaction}
use Rattle.sqlite_schema.specs.declared.schema.Table.{Table}
use Rattle.sqlite.specs.Effect.{Database}
use Rattle.statements.specs.Place.{tree_of, IsOwn, RefersPassively}
use Rattle.statements.specs.Tables.{Tables, Holds, our_tables}

-- ---- what is said about rows

-- nothing, about any rows
abbrev pub AnyRows : Tables → Type 0
AnyRows t = ⊤

-- the value is computed from the rows
abbrev pub Equals : {X : Type 0} → (Tables → X) → X → Tables → Type 0
Equals value x t = x ≡ value t

-- the value is computed from rows that obey a law
abbrev pub EqualsWhere : {X : Type 0} → (Tables → Type 0) → (Tables → X) → X → Tables → Type 0
EqualsWhere law value x t = law t → x ≡ value t

-- ---- a write

-- The schema is unchanged. So are the rows of each table that is none of these, if its foreign keys have no CASCADE or SET action.
pub record LeavesBeside (tables : List Table) (old new : Database) : Type 0 where
  pub schema : new.schema ≡ old.schema
  pub rows :
      (other : Table) → IsOwn old.schema other → RefersPassively other → AllByRecursion (λ (ours : Table). tree_of old.schema other.name ≢ tree_of old.schema ours.name) tables
      → new.trees (tree_of old.schema other.name) ≡ old.trees (tree_of old.schema other.name)

-- the same for each table that is not ours
abbrev pub LeavesForeign : Database → Database → Type 0
LeavesForeign = LeavesBeside our_tables

-- If the rows obey the law, the function is applied to them, inside the transaction, which stays open. What is not ours is unchanged.
pub record Moves (law : Tables → Type 0) (change : Tables → Tables) (old new : State) : Type 0 where
  pub rows : (t : Tables) → Holds old.now t → law t → Holds new.now (change t)
  pub others : (t : Tables) → Holds old.now t → law t → LeavesForeign old.now new.now
  pub was_open : IsTrue old.is_open
  pub is_open : IsTrue new.is_open
  pub committed : new.committed ≡ old.committed
  pub inside : IsTrue new.in_transaction

-- if it fails, nothing is committed
abbrev pub Changes : {X E : Type 0} → (Tables → Type 0) → (Tables → Tables) → State → State → Result X E → Type 0
Changes law change old new result = HasCleanDisk new → IsTrue old.in_transaction → OnOk result (Moves law change old new) × OnErr result (KeepsCommit old new)

-- What a write promises: the transaction is still that of the same connection, the function is applied to rows that obey the law, and the
-- promises of the disk still hold.
pub record Writes {S X E : Type 0} (g : Ghosts S) (law : Tables → Type 0) (change : Tables → Tables) (old new : Transaction S) (result : Result X E) : Type 0 where
  pub same_reference : new.conn.ghost_name ≡ old.conn.ghost_name
  pub changed : Changes law change (state g old.conn.now) (state g new.conn.now) result
  pub survives : Survives (state g old.conn.now) (state g new.conn.now) (λ _. ⊥)

-- What any number of statements in a transaction promise: the same for any rows. A disk that is clean afterwards was clean before, and a
-- shielded one stays shielded.
pub record Steps {S X E : Type 0} (g : Ghosts S) (change : Tables → Tables) (old new : Transaction S) (result : Result X E) : Type 0 where
  pub same_reference : new.conn.ghost_name ≡ old.conn.ghost_name
  pub changed : Changes AnyRows change (state g old.conn.now) (state g new.conn.now) result
  pub so_far : HasCleanDisk (state g new.conn.now) → HasCleanDisk (state g old.conn.now)
  pub shield : (state g old.conn.now).IsShielded → (state g new.conn.now).IsShielded

-- if it succeeds, the result says this about the rows before it
abbrev pub Reports : {X E : Type 0} → (X → Tables → Type 0) → State → State → Result X E → Type 0
Reports says old new result = HasCleanDisk new → IsTrue old.in_transaction → IfOk result (λ x. (t : Tables) → Holds old.now t → says x t)

-- ---- a read

-- the result says this about the rows, and nothing changes
abbrev pub Reads : {X E : Type 0} → (X → Tables → Type 0) → State → State → Result X E → Type 0
Reads says old new result =
    HasCleanDisk new → IfOk result (λ x. (t : Tables) → Holds old.now t → says x t) × (OnOk result (IsUnchanged old new) × OnErr result (IsUnchanged old new ⊎ IsRolledBack old new))

-- What a read promises: no transaction begins, the result says this about the rows, nothing changes, and the promises of the disk still
-- hold.
pub record Queries {S X E : Type 0} (g : Ghosts S) (says : X → Tables → Type 0) (old new : Held S) (result : Result X E) : Type 0 where
  pub mode : old.in_transaction ≡ false → new.in_transaction ≡ false
  pub read : Reads says (state g old) (state g new) result
  pub survives : Survives (state g old) (state g new) (λ _. ⊥)

-- what any number of reads leave as it was
pub record LeavesAsIs (old new : State) : Type 0 where
  pub was_open : IsTrue new.is_open → IsTrue old.is_open
  pub is_open : IsTrue old.is_open → IsTrue new.is_open
  pub now : new.now ≡ old.now
  pub committed : new.committed ≡ old.committed
  pub mode : new.in_transaction ≡ old.in_transaction

-- What any number of reads promise: no transaction begins, the result says this about the rows, nothing changes, a disk that is clean
-- afterwards was clean before, and a shielded one stays shielded. If they fail, nothing is committed.
pub record Sees {S X E : Type 0} (g : Ghosts S) (says : X → Tables → Type 0) (old new : Held S) (result : Result X E) : Type 0 where
  pub mode : old.in_transaction ≡ false → new.in_transaction ≡ false
  pub sees :
      HasCleanDisk (state g new)
      → IfOk result (λ x. (t : Tables) → Holds (state g old).now t → says x t) × (OnOk result (LeavesAsIs (state g old) (state g new)) × OnErr result (KeepsCommit (state g old) (state g new)))
  pub so_far : HasCleanDisk (state g new) → HasCleanDisk (state g old)
  pub shield : (state g old).IsShielded → (state g new).IsShielded
