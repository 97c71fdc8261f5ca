-- The rows of the tables as typed values, the cells that store them, and the typed row that cells stand for.
use Rattle.std.specs.Prelude.{ℕ, ℤ, pos, Bool, Option, List, [], ◌∷◌, ◌++◌, length, if◌then◌else◌, zero, suc, not, unsigned_abs, ◌+◌, ◌==◌}
use Rattle.sqlite_value.specs.declared.value.Value.{Value}
use Rattle.sqlite_value.specs.declared.value.Value.TheVariants as cell
use Rattle.sqlite_value.specs.Order.{Row, column}
use Rattle.sqlite_typed.specs.Columns.{or_null, int_of, bytes_of, unless_null}
use Rattle.basis.specs.declared.roles.Role.{Role}
use Rattle.basis.specs.declared.roles.Role.TheVariants.{Read, Write, Admin}
use Rattle.basis.specs.declared.rows.RunSettings.{RunSettings}
use Rattle.basis.specs.declared.runs.RunStatus.{RunStatus}
use Rattle.basis.specs.declared.runs.RunStatus.TheVariants.{Pending, Planning, Planned, Applying, Applied, PlannedAndFinished, Errored, Discarded, Canceled}
use Rattle.basis.specs.declared.runs.RunAction.{RunAction}
use Rattle.basis.specs.declared.runs.RunAction.TheVariants.{ReportPlanned, ReportUnchanged, Fail, Confirm, ReportApplied, Discard, Cancel}
use Rattle.basis.specs.declared.rows.Holder.{Holder}
use Rattle.basis.specs.declared.rows.Holder.TheVariants.{Nobody, Lock, Run as HeldByRun}
use Rattle.basis.specs.declared.rows.VersionRow.{VersionRow as Version}
use Rattle.basis.specs.declared.rows.RunRow.{RunRow as Run}
use Rattle.statements.specs.declared.rows.Workspace.{Workspace}
use Rattle.statements.specs.declared.rows.Token.{Token as ItsToken}
use Rattle.statements.specs.declared.rows.Bound.{Bound as ItsBound}
use Rattle.statements.specs.declared.rows.OrgRow.{OrgRow as ItsOrgRow}
use Rattle.statements.specs.declared.rows.Owned.{Owned as ItsOwned}
use Rattle.statements.specs.declared.rows.VpageRow.{VpageRow as ItsVpageRow}
use Rattle.std.specs.Ordering.{int_eq}

-- a token: the digest of its secret, and its role
abbrev pub Token : Type 0
Token = ItsToken

-- a row with its rowid
abbrev pub Kept : Type 0 → Type 0
Kept R = ℤ × R

abbrev pub id_of : {R : Type 0} → Kept R → ℤ
id_of x = x.0

abbrev pub OrgRow : Type 0
OrgRow = ItsOrgRow

-- a row of a token or of a workspace
abbrev pub Owned : Type 0 → Type 0
Owned T = ItsOwned T

abbrev pub TokenRow : Type 0
TokenRow = Owned Token

abbrev pub WsRow : Type 0
WsRow = Owned Workspace

abbrev pub VersionRow : Type 0
VersionRow = Owned Version

abbrev pub RunRow : Type 0
RunRow = Owned Run

-- a page of texts, and the number of rows that name it
pub record PageRow : Type 0 where
  pub key : List ℕ
  pub twin : ℕ
  pub bytes : List ℕ
  pub uses : ℕ

-- the page at a place of a version's text, by its key and twin number
abbrev pub VpageRow : Type 0
VpageRow = ItsVpageRow

-- when a token expires, if it does, and the prefix of its workspaces
abbrev pub Bound : Type 0
Bound = ItsBound

abbrev pub BoundRow : Type 0
BoundRow = Owned Bound

-- the number of versions that a workspace keeps
abbrev pub RetentionRow : Type 0
RetentionRow = Owned ℕ

-- ---- cells

abbrev pub number : ℕ → Value
number n = cell.Int (pos n)

abbrev pub flag : Bool → Value
flag b = cell.Int (if b then pos 1 else pos 0)

abbrev pub role_code : Role → ℕ
role_code Read = 0
role_code Write = 1
role_code Admin = 2

abbrev pub status_code : RunStatus → ℕ
status_code Pending = 0
status_code Planning = 1
status_code Planned = 2
status_code Applying = 3
status_code Applied = 4
status_code PlannedAndFinished = 5
status_code Errored = 6
status_code Discarded = 7
status_code Canceled = 8

abbrev pub action_code : RunAction → ℕ
action_code ReportPlanned = 0
action_code ReportUnchanged = 1
action_code Fail = 2
action_code Confirm = 3
action_code ReportApplied = 4
action_code Discard = 5
action_code Cancel = 6

-- the columns kind, lock_id, lock_text and run
abbrev pub kind_cell : Holder → Value
kind_cell Nobody = number 0
kind_cell (Lock id text) = number 1
kind_cell (HeldByRun n) = number 2

abbrev pub lock_id_cell : Holder → Value
lock_id_cell Nobody = cell.Null
lock_id_cell (Lock id text) = cell.Text id
lock_id_cell (HeldByRun n) = cell.Null

abbrev pub lock_text_cell : Holder → Value
lock_text_cell Nobody = cell.Null
lock_text_cell (Lock id text) = cell.Blob text
lock_text_cell (HeldByRun n) = cell.Null

abbrev pub run_cell : Holder → Value
run_cell Nobody = cell.Null
run_cell (Lock id text) = cell.Null
run_cell (HeldByRun n) = number n

-- the columns of the settings of runs
abbrev pub run_settings_cells : RunSettings → Row
run_settings_cells s = flag s.auto_apply ∷ []

abbrev pub org_cells : OrgRow → Row
org_cells r = cell.Text r.name ∷ number r.cap ∷ []

-- the names come first
abbrev pub owned_cells : {T : Type 0} → (T → Row) → Owned T → Row
owned_cells cells r = cell.Text r.org ∷ cell.Text r.name ∷ cells r.it

abbrev pub token_cells : TokenRow → Row
token_cells = owned_cells (λ it. cell.Blob it.digest ∷ number (role_code it.role) ∷ [])

abbrev pub ws_cells : WsRow → Row
ws_cells = owned_cells (λ it.
    run_settings_cells it.runs ++ kind_cell it.holder ∷ lock_id_cell it.holder ∷ lock_text_cell it.holder ∷ run_cell it.holder
    ∷ or_null cell.Text it.released ∷ number it.next_version ∷ number it.next_run ∷ [])

abbrev pub version_cells : VersionRow → Row
version_cells = owned_cells (λ it. number it.number ∷ number it.serial ∷ cell.Text it.lineage ∷ number it.created ∷ number it.size ∷ [])

abbrev pub run_cells : RunRow → Row
run_cells = owned_cells (λ it.
    number it.number ∷ flag it.plan_only ∷ or_null cell.Text it.key ∷ cell.Text it.message ∷ number it.created
    ∷ number (status_code it.status) ∷ or_null (λ a. number (action_code a)) it.action ∷ [])

abbrev pub page_cells : PageRow → Row
page_cells r = cell.Blob r.key ∷ number r.twin ∷ cell.Blob r.bytes ∷ number r.uses ∷ []

abbrev pub vpage_cells : VpageRow → Row
vpage_cells r = cell.Text r.org ∷ cell.Text r.ws ∷ number r.number ∷ number r.place ∷ cell.Blob r.key ∷ number r.twin ∷ []

abbrev pub bound_cells : BoundRow → Row
bound_cells = owned_cells (λ it. or_null number it.until ∷ cell.Text it.prefix ∷ [])

abbrev pub retention_cells : RetentionRow → Row
retention_cells = owned_cells (λ it. number it ∷ [])

-- meta's column `one` is its rowid, and the stored row has Null in its place
abbrev pub meta_cells : ℕ → Row
meta_cells version = cell.Null ∷ number version ∷ []

-- the same holds for edition
abbrev pub edition_cells : ℕ → Row
edition_cells version = cell.Null ∷ number version ∷ []

-- a row as its tree stores it
abbrev pub stored : {R : Type 0} → (R → Row) → Kept R → Row
stored cells x = cell.Int x.0 ∷ cells x.1

-- ---- the row that cells stand for

abbrev pub number_at : Row → ℕ → ℕ
number_at r at = unsigned_abs (int_of (column r at))

abbrev pub flag_at : Row → ℕ → Bool
flag_at r at = not (int_eq (int_of (column r at)) (pos 0))

abbrev pub bytes_at : Row → ℕ → List ℕ
bytes_at r at = bytes_of (column r at)

abbrev pub role_at : ℕ → Role
role_at zero = Read
role_at (suc zero) = Write
role_at (suc (suc n)) = Admin

abbrev pub status_at : ℕ → RunStatus
status_at n =
    if n == 0 then Pending else (if n == 1 then Planning else (if n == 2 then Planned else (if n == 3 then Applying else (if n == 4 then Applied else
    (if n == 5 then PlannedAndFinished else (if n == 6 then Errored else (if n == 7 then Discarded else Canceled)))))))

abbrev pub action_at : ℕ → RunAction
action_at n =
    if n == 0 then ReportPlanned else (if n == 1 then ReportUnchanged else (if n == 2 then Fail else (if n == 3 then Confirm else (if n == 4 then ReportApplied else (if n == 5 then Discard else Cancel)))))

-- the settings of runs, from this column on
abbrev pub run_settings_at : Row → ℕ → RunSettings
run_settings_at r at = record { auto_apply = flag_at r at }

-- the number of columns that hold the settings of runs
abbrev pub run_settings_width : ℕ
run_settings_width = length (run_settings_cells (run_settings_at [] 0))

-- the column of a row of ws after those
abbrev pub behind_run_settings : ℕ
behind_run_settings = 3 + run_settings_width

-- from the columns kind, lock_id, lock_text and run
abbrev pub holder_of : ℕ → List ℕ → List ℕ → ℕ → Holder
holder_of zero id text run = Nobody
holder_of (suc zero) id text run = Lock id text
holder_of (suc (suc n)) id text run = HeldByRun run

-- the holder of a workspace, from this column on
abbrev pub holder_at : Row → ℕ → Holder
holder_at r at = holder_of (number_at r at) (bytes_at r (at + 1)) (bytes_at r (at + 2)) (number_at r (at + 3))

-- a text that may be absent
abbrev pub some_bytes_at : Row → ℕ → Option (List ℕ)
some_bytes_at r at = unless_null bytes_of (column r at)

-- an action that may be absent
abbrev pub some_action_at : Row → ℕ → Option RunAction
some_action_at r at = unless_null (λ v. action_at (unsigned_abs (int_of v))) (column r at)

-- what a row holds of a workspace: its holder from one column on, and the settings of its runs from the other
abbrev pub workspace_in_row : Row → ℕ → ℕ → Workspace
workspace_in_row r at settings = record {
  runs = run_settings_at r settings;
  holder = holder_at r at;
  released = some_bytes_at r (at + 4);
  next_version = number_at r (at + 5);
  next_run = number_at r (at + 6);
}

-- what a row holds of a version, from this column on
abbrev pub version_in_row : Row → ℕ → Version
version_in_row r at = record { number = number_at r at; serial = number_at r (at + 1); lineage = bytes_at r (at + 2); created = number_at r (at + 3); size = number_at r (at + 4) }

-- what a row holds of a run, from this column on
abbrev pub run_in_row : Row → ℕ → Run
run_in_row r at = record {
  number = number_at r at;
  plan_only = flag_at r (at + 1);
  key = some_bytes_at r (at + 2);
  message = bytes_at r (at + 3);
  created = number_at r (at + 4);
  status = status_at (number_at r (at + 5));
  action = some_action_at r (at + 6);
}

-- a row with its rowid, from the row that a tree stores
abbrev pub kept_by : {R : Type 0} → (Row → R) → Row → Kept R
kept_by read r = (int_of (column r 0), read r)

abbrev pub meta_at : Row → ℕ
meta_at r = number_at r 2

abbrev pub org_at : Row → OrgRow
org_at r = record { name = bytes_at r 1; cap = number_at r 2 }

-- the names come first; the other columns are read like this
abbrev pub owned_at : {T : Type 0} → (Row → T) → Row → Owned T
owned_at rest r = record { org = bytes_at r 1; name = bytes_at r 2; it = rest r }

abbrev pub token_rest : Row → Token
token_rest r = record { digest = bytes_at r 3; role = role_at (number_at r 4) }

abbrev pub token_at : Row → TokenRow
token_at = owned_at token_rest

abbrev pub ws_at : Row → WsRow
ws_at = owned_at (λ r. workspace_in_row r behind_run_settings 3)

abbrev pub version_at : Row → VersionRow
version_at = owned_at (λ r. version_in_row r 3)

abbrev pub run_at : Row → RunRow
run_at = owned_at (λ r. run_in_row r 3)

abbrev pub page_at : Row → PageRow
page_at r = record { key = bytes_at r 1; twin = number_at r 2; bytes = bytes_at r 3; uses = number_at r 4 }

abbrev pub vpage_at : Row → VpageRow
vpage_at r = record { org = bytes_at r 1; ws = bytes_at r 2; number = number_at r 3; place = number_at r 4; key = bytes_at r 5; twin = number_at r 6 }

abbrev pub bound_rest : Row → Bound
bound_rest r = record { until = unless_null (λ v. unsigned_abs (int_of v)) (column r 3); prefix = bytes_at r 4 }

abbrev pub bound_at : Row → BoundRow
bound_at = owned_at bound_rest

abbrev pub retention_row_at : Row → RetentionRow
retention_row_at = owned_at (λ r. number_at r 3)

abbrev pub edition_at : Row → ℕ
edition_at r = number_at r 2
