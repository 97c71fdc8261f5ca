-- What a statement does when it is run, and what a query returns: the first row of its result, or none, and the value that this row is read
-- as.
use Rattle.std.specs.Prelude.{◌≡◌, ◌⊎◌, ◌+◌, ◌<◌, ◌≤◌, ◌==◌, ◌^◌, length, ⊤, ℕ, ℤ, pos, negsuc, Bool, not, List, [], ◌∷◌, Option, Some, None, Result, Ok, Err, IfOk, OnOk, OnErr}
use Rattle.std.specs.List.{AllZip}
use Rattle.std.specs.Ordering.{int_eq}
use Rattle.sqlite_ast.specs.declared.Select.{Select}
use Rattle.sqlite_ast.specs.declared.Statement.TheVariants as written
use Rattle.sqlite_syntax.specs.declared.statement.Parsed.{Parsed}
use Rattle.sqlite_resolve.specs.Compile.{first}
use Rattle.sqlite_value.specs.declared.value.Value.{Value}
use Rattle.sqlite_value.specs.declared.value.Value.TheVariants as cell
use Rattle.sqlite_value.specs.Order.{Row, column}
use Rattle.basis.specs.declared.roles.Role.{Role}
use Rattle.basis.specs.declared.runs.RunStatus.{RunStatus}
use Rattle.basis.specs.declared.runs.RunAction.{RunAction}
use Rattle.basis.specs.declared.rows.Holder.{Holder}
use Rattle.basis.specs.declared.rows.Holder.TheVariants.{Nobody, Lock, Run as HeldByRun}
use Rattle.basis.specs.declared.rows.VersionRow.{VersionRow as Version}
use Rattle.statements.specs.declared.rows.Workspace.{Workspace}
use Rattle.statements.specs.declared.rows.NamedWorkspace.{NamedWorkspace}
use Rattle.statements.specs.declared.rows.Organization.{Organization}
use Rattle.basis.specs.declared.rows.RunRow.{RunRow as Run}
use Rattle.statements.specs.declared.rows.NamedToken.{NamedToken}
use Rattle.statements.specs.declared.rows.BoundedRole.{BoundedRole}
use Rattle.basis.specs.declared.roles.Bounds.{Bounds}
use Rattle.statements.specs.Rows.{number, role_code, status_code, action_code, run_settings_at}
use Rattle.sqlite.specs.State.{State, IsUnchanged, IsRolledBack, KeepsCommit, ExecutesInside, QueriesRow, Shown, Begins}

-- the text was run in a transaction
abbrev pub Wrote : {X E : Type 0} → List ℕ → Row → State → State → Result X E → Type 0
Wrote text params old new result = OnOk result ((count : ℕ) × ExecutesInside 0 text params old new (Ok count)) × OnErr result (KeepsCommit old new)

-- the same, and whether it wrote any rows
abbrev pub WroteAny : {E : Type 0} → List ℕ → Row → State → State → Result Bool E → Type 0
WroteAny text params old new result = IfOk result (λ any. (count : ℕ) × ExecutesInside 0 text params old new (Ok count) × (any ≡ not (count == 0))) × OnErr result (KeepsCommit old new)

-- the text is a SELECT, in every schema
abbrev pub IsQuery : List ℕ → Type 0
IsQuery text = (q : Select) × (p : Parsed) × (first text ≡ Ok (record p { statement = written.Select q; formats = [] }))

abbrev pub FirstRow : List ℕ → Row → State → State → Option Row → Type 0
FirstRow text params old new None = Shown text params old new []
FirstRow text params old new (Some row) = QueriesRow text params old new (Ok row)

-- The rows are the first of a result, as many as were asked for; or they are the whole result, and at most that many.
abbrev pub FirstRows : ℕ → List ℕ → Row → State → State → List Row → Type 0
FirstRows most text params old new rows = (Begins text params old rows × (length rows ≡ most)) ⊎ (Shown text params old new rows × (length rows ≤ most))

-- with this number LIMIT allows so many rows; if SQL has no such number, it is -1, which allows any number
abbrev pub LimitsTo : ℕ → ℤ → Type 0
LimitsTo most n = ((most < 2 ^ 63) × (n ≡ pos most)) ⊎ ((2 ^ 63 ≤ most) × (n ≡ negsuc 0))

-- A query does not change what it reads. If it fails, the transaction may have been rolled back.
abbrev pub IsCalm : {X E : Type 0} → State → State → Result X E → Type 0
IsCalm old new result = OnOk result (IsUnchanged old new) × OnErr result (IsUnchanged old new ⊎ IsRolledBack old new)

-- the row of a query is read as a value, and no row as none
abbrev pub IsRead : {X E F : Type 0} → (Row → X → Type 0) → Result (Option Row) E → Result (Option X) F → Type 0
IsRead Is row (Err f) = ⊤
IsRead Is (Err e) (Ok found) = ⊥
IsRead Is (Ok None) (Ok None) = ⊤
IsRead Is (Ok None) (Ok (Some x)) = ⊥
IsRead Is (Ok (Some row)) (Ok None) = ⊥
IsRead Is (Ok (Some row)) (Ok (Some x)) = Is row x

-- the only row of a query is read as a value, and no row as none
abbrev pub IsOnly : {X E F : Type 0} → (Row → X → Type 0) → Result (List Row) E → Result (Option X) F → Type 0
IsOnly Is rows (Err f) = ⊤
IsOnly Is (Err e) (Ok found) = ⊥
IsOnly Is (Ok rows) (Ok None) = rows ≡ []
IsOnly Is (Ok rows) (Ok (Some x)) = (row : Row) × (rows ≡ row ∷ []) × Is row x

-- each row of a query is read as a value
abbrev pub AreRead : {X E F : Type 0} → (Row → X → Type 0) → Result (List Row) E → Result (List X) F → Type 0
AreRead Is rows (Err f) = ⊤
AreRead Is (Err e) (Ok xs) = ⊥
AreRead Is (Ok rows) (Ok xs) = AllZip Is rows xs

-- all rows of a query without parameters are read as these values
abbrev pub AreAllRead : {X : Type 0} → (Row → X → Type 0) → List ℕ → State → State → List X → Type 0
AreAllRead Is text old new xs = (rows : List Row) × Shown text [] old new rows × AllZip Is rows xs

-- ---- how a row is read

abbrev pub IsFlagCell : Value → Bool → Type 0
IsFlagCell v b = (n : ℤ) × (v ≡ cell.Int n) × (b ≡ not (int_eq n (pos 0)))

abbrev pub IsTextOrNull : Value → Option (List ℕ) → Type 0
IsTextOrNull v None = v ≡ cell.Null
IsTextOrNull v (Some t) = v ≡ cell.Text t

abbrev pub IsNumberOrNull : Value → Option ℕ → Type 0
IsNumberOrNull v None = v ≡ cell.Null
IsNumberOrNull v (Some n) = v ≡ number n

abbrev pub IsActionOrNull : Value → Option RunAction → Type 0
IsActionOrNull v None = v ≡ cell.Null
IsActionOrNull v (Some action) = v ≡ number (action_code action)

-- the holder of a workspace, from this column on: kind, lock_id, lock_text and run
abbrev pub IsHolderIn : ℕ → Row → Holder → Type 0
IsHolderIn at row Nobody = column row at ≡ number 0
IsHolderIn at row (Lock id text) = (column row at ≡ number 1) × (column row (at + 1) ≡ cell.Text id) × (column row (at + 2) ≡ cell.Blob text)
IsHolderIn at row (HeldByRun n) = (column row at ≡ number 2) × (column row (at + 3) ≡ number n)

-- a workspace: its holder from column `at` on, and the settings of its runs from column `settings` on
pub record IsWorkspaceIn (at settings : ℕ) (row : Row) (w : Workspace) : Type 0 where
  pub runs : w.runs ≡ run_settings_at row settings
  pub holder : IsHolderIn at row w.holder
  pub released : IsTextOrNull (column row (at + 4)) w.released
  pub next_version : column row (at + 5) ≡ number w.next_version
  pub next_run : column row (at + 6) ≡ number w.next_run

abbrev pub IsWorkspace : Row → Workspace → Type 0
IsWorkspace row w = IsWorkspaceIn 0 7 row w

pub record IsNamedRow (row : Row) (w : NamedWorkspace) : Type 0 where
  pub it : IsWorkspaceIn 0 10 row w.it
  pub name : column row 7 ≡ cell.Text w.name
  pub retention : IsNumberOrNull (column row 8) w.retention
  pub last : IsNumberOrNull (column row 9) w.last

abbrev pub IsName : Row → List ℕ → Type 0
IsName row name = column row 0 ≡ cell.Text name

pub record IsOrganization (row : Row) (o : Organization) : Type 0 where
  pub name : column row 0 ≡ cell.Text o.name
  pub cap : column row 1 ≡ number o.cap

-- a version, from this column on
pub record IsVersionIn (at : ℕ) (row : Row) (v : Version) : Type 0 where
  pub number_is : column row at ≡ number v.number
  pub serial : column row (at + 1) ≡ number v.serial
  pub lineage : column row (at + 2) ≡ cell.Text v.lineage
  pub created : column row (at + 3) ≡ number v.created
  pub size : column row (at + 4) ≡ number v.size

abbrev pub IsVersionRow : Row → Version → Type 0
IsVersionRow row v = IsVersionIn 0 row v

-- a run, from this column on
pub record IsRunIn (at : ℕ) (row : Row) (r : Run) : Type 0 where
  pub number_is : column row at ≡ number r.number
  pub plan_only : IsFlagCell (column row (at + 1)) r.plan_only
  pub key : IsTextOrNull (column row (at + 2)) r.key
  pub message : column row (at + 3) ≡ cell.Text r.message
  pub created : column row (at + 4) ≡ number r.created
  pub status : column row (at + 5) ≡ number (status_code r.status)
  pub action : IsActionOrNull (column row (at + 6)) r.action

abbrev pub IsRunRow : Row → Run → Type 0
IsRunRow row r = IsRunIn 0 row r

pub record IsNamedToken (row : Row) (x : NamedToken) : Type 0 where
  pub name : column row 0 ≡ cell.Text x.name
  pub digest : column row 1 ≡ cell.Blob x.it.digest
  pub role : column row 2 ≡ number (role_code x.it.role)

pub record IsBound (row : Row) (b : Bounds) : Type 0 where
  pub until : IsNumberOrNull (column row 0) b.until
  pub prefix : column row 1 ≡ cell.Text b.prefix

pub record IsBoundedRole (row : Row) (b : BoundedRole) : Type 0 where
  pub name : column row 0 ≡ cell.Text b.token.name
  pub role : column row 1 ≡ number (role_code b.token.role)
  pub until : IsNumberOrNull (column row 2) b.bounds.until
  pub prefix : column row 3 ≡ cell.Text b.bounds.prefix

abbrev pub IsBody : Row → List ℕ → Type 0
IsBody row body = column row 0 ≡ cell.Blob body

abbrev pub IsNumber : Row → ℕ → Type 0
IsNumber row n = column row 0 ≡ number n

abbrev pub IsRole : Row → Role → Type 0
IsRole row role = column row 0 ≡ number (role_code role)

abbrev pub IsStatus : Row → RunStatus → Type 0
IsStatus row status = column row 0 ≡ number (status_code status)

-- the number in the row of a count
abbrev pub IsCount : {E F : Type 0} → Result (Option Row) E → Result ℕ F → Type 0
IsCount row (Err f) = ⊤
IsCount (Err e) (Ok n) = ⊥
IsCount (Ok None) (Ok n) = n ≡ 0
IsCount (Ok (Some row)) (Ok n) = IsNumber row n

-- A row is read as this value and no other, and no row as none.
abbrev pub Pins : {X : Type 0} → (Row → X → Type 0) → Option Row → Option X → Type 0
Pins Is None None = ⊤
Pins Is None (Some x) = ⊥
Pins Is (Some row) None = ⊥
Pins {X} Is (Some row) (Some x) = (y : X) → Is row y → y ≡ x
