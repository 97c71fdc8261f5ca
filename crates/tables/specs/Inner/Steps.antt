-- What calls of a store do to the committed rows.
use Rattle.std.specs.Prelude.{◌≡◌, ℕ, Bool, false, cond, ◌||◌, List, is_some, Option, Some, None, IsTrue, Result, IfOk, OnErr}
use Rattle.sqlite_trees.specs.declared.store.Store.{Ghosts}
use Rattle.sqlite.specs.Held.{Held, state}
use Rattle.sqlite.specs.State.{State, HasCleanDisk, KeepsCommit}
use Rattle.sqlite.specs.declared.transaction.Transaction.{Transaction}
use Rattle.basis.specs.declared.roles.Role.{Role}
use Rattle.basis.specs.declared.roles.Bounds.{Bounds}
use Rattle.machine.specs.Effects.{Effect, effect}
use Rattle.machine.specs.declared.keeps.AdminAnswer.{AdminAnswer}
use Rattle.machine.specs.declared.keeps.AdminAnswer.TheVariants.{Done, Exists, Absent}
use Rattle.statements.specs.Changes.{org_row_added, org_capped, token_added, token_removed}
use Rattle.statements.specs.Finds.{cap_of, role_of_name, role_of_digest}
use Rattle.statements.specs.Steps.{Steps, Reports}
use Rattle.statements.specs.Tables.{Tables, Holds}

-- between transactions nothing is uncommitted
abbrev pub IsAllCommitted : State → Type 0
IsAllCommitted s = IsTrue s.is_open → s.now ≡ s.committed

-- A call outside a transaction, whether it succeeded or not: afterwards no transaction is open, a disk that is clean was clean before, and
-- a shielded one stays shielded.
pub record EndsIdle {S : Type 0} (g : Ghosts S) (old new : Held S) : Type 0 where
  pub idle : new.in_transaction ≡ false
  pub so_far : HasCleanDisk (state g new) → HasCleanDisk (state g old)
  pub shield : (state g old).IsShielded → (state g new).IsShielded

-- The change is committed, and this is said about the rows that were committed before it.
pub record Commits (change : Tables → Tables) (reported : Tables → Type 0) (old new : State) : Type 0 where
  pub rows : (t : Tables) → Holds old.committed t → Holds new.committed (change t)
  pub reports : (t : Tables) → Holds old.committed t → reported t
  pub was_open : IsTrue old.is_open
  pub is_open : IsTrue new.is_open

-- What steps promise, and what they say about the rows before them.
pub record ReportingSteps {S X E : Type 0} (g : Ghosts S) (change : Tables → Tables) (law : Tables → Type 0) (old new : Transaction S) (result : Result X E) : Type 0 where
  pub steps : Steps g change old new result
  pub reports : Reports (λ _. law) (state g old.conn.now) (state g new.conn.now) result

-- the same, for some keys of the pages of a text: one for each place
abbrev pub KeyedSteps : {S X E : Type 0} → Ghosts S → ((ℕ → List ℕ) → Tables → Tables) → ((ℕ → List ℕ) → Tables → Type 0) → Transaction S → Transaction S → Result X E → Type 0
KeyedSteps g change law old new result = (keys : ℕ → List ℕ) × ReportingSteps g (change keys) (law keys) old new result

-- one transaction: its change is committed, or nothing is
abbrev pub Transacts : {X E : Type 0} → (Tables → Tables) → (X → Tables → Type 0) → State → State → Result X E → Type 0
Transacts change says old new result = HasCleanDisk new → IfOk result (λ x. Commits change (says x) old new) × OnErr result (KeepsCommit old new)

-- reads the committed rows, and the result says this about them; nothing is committed
abbrev pub ReadsCommitted : {X E : Type 0} → (X → Tables → Type 0) → State → State → Result X E → Type 0
ReadsCommitted says old new result = HasCleanDisk new → IfOk result (λ x. IsTrue old.is_open × ((t : Tables) → Holds old.committed t → says x t)) × KeepsCommit old new

-- ---- an operator's commands: the answer, and the rows after it

abbrev pub org_managed_by : Option ℕ → List ℕ → ℕ → Tables → Effect AdminAnswer Tables
org_managed_by None org limit t = effect Done (org_row_added org limit t)
org_managed_by (Some cap) org limit t = effect Exists t

abbrev pub org_managed : List ℕ → ℕ → Tables → Effect AdminAnswer Tables
org_managed org limit t = org_managed_by (cap_of org t) org limit t

-- whether an organization has a token with this name, or one with this digest
abbrev pub is_taken : List ℕ → List ℕ → List ℕ → Tables → Bool
is_taken org name digest t = is_some (role_of_name org name t) || is_some (role_of_digest org digest t)

abbrev pub token_managed_by : Option ℕ → Bool → List ℕ → List ℕ → List ℕ → Role → Bounds → Tables → Effect AdminAnswer Tables
token_managed_by None taken org name digest role bounds t = effect Absent t
token_managed_by (Some cap) taken org name digest role bounds t = cond taken (effect Exists t) (effect Done (token_added org name digest role bounds.until bounds.prefix t))

abbrev pub token_managed : List ℕ → List ℕ → List ℕ → Role → Bounds → Tables → Effect AdminAnswer Tables
token_managed org name digest role bounds t = token_managed_by (cap_of org t) (is_taken org name digest t) org name digest role bounds t

-- sets the limit of an existing organization
abbrev pub limit_managed_by : Option ℕ → List ℕ → ℕ → Tables → Effect AdminAnswer Tables
limit_managed_by None org limit t = effect Absent t
limit_managed_by (Some cap) org limit t = effect Done (org_capped org limit t)

abbrev pub limit_managed : List ℕ → ℕ → Tables → Effect AdminAnswer Tables
limit_managed org limit t = limit_managed_by (cap_of org t) org limit t

-- removes an existing token
abbrev pub revocation_managed_by : Option Role → List ℕ → List ℕ → Tables → Effect AdminAnswer Tables
revocation_managed_by None org name t = effect Absent t
revocation_managed_by (Some role) org name t = effect Done (token_removed org name t)

abbrev pub revocation_managed : List ℕ → List ℕ → Tables → Effect AdminAnswer Tables
revocation_managed org name t = revocation_managed_by (role_of_name org name t) org name t

-- the answer is computed from the rows, and the rows after it are committed
abbrev pub ManagesBy : {E : Type 0} → (Tables → Effect AdminAnswer Tables) → State → State → Result AdminAnswer E → Type 0
ManagesBy command old new result = Transacts (λ t. (command t).left) (λ answer t. answer ≡ (command t).answer) old new result
