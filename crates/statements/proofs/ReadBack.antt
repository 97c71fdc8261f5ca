-- A row that was read as a value is the row of that value alone, and the row of a value is read as it.
use Rattle.statements.proofs.Outside.{◌≡◌, ◌+◌, ℕ, pos, Bool, not, int_eq, unsigned_abs, List, [], ◌∷◌, Option, Some, None, refl, sym, ap, ◌∙◌, subst, Value, Row, column, or_null, bytes_of, int_of, unless_null, Role, RunStatus, RunAction, Holder}
use Rattle.sqlite_value.specs.declared.value.Value.TheVariants as cell
use Rattle.basis.specs.declared.rows.Holder.TheVariants.{Nobody, Lock, Run as HeldByRun}
use Rattle.statements.specs.declared.rows.Workspace.{Workspace}
use Rattle.statements.specs.declared.rows.NamedWorkspace.{NamedWorkspace}
use Rattle.statements.specs.declared.rows.Organization.{Organization}
use Rattle.basis.specs.declared.rows.VersionRow.{VersionRow as Version}
use Rattle.basis.specs.declared.rows.RunRow.{RunRow as Run}
use Rattle.statements.specs.declared.rows.NamedRole.{NamedRole}
use Rattle.statements.specs.declared.rows.NamedToken.{NamedToken}
use Rattle.basis.specs.declared.roles.Bounds.{Bounds}
use Rattle.statements.specs.Rows.{Token, number, flag, role_code, status_code, action_code, run_settings_cells, kind_cell, lock_id_cell, lock_text_cell, run_cell, holder_of, status_at, action_at, number_at, bytes_at, holder_at, workspace_in_row, version_in_row, run_in_row}
use Rattle.statements.specs.Calls.{IsFlagCell, IsTextOrNull, IsActionOrNull, IsHolderIn, IsWorkspaceIn, IsVersionIn, IsRunIn, IsNamedRow, IsOrganization, IsNamedToken, IsNumberOrNull, IsBound}
use Rattle.statements.proofs.Codes.{same_role, same_status, flag_back, status_back, action_back}
use Rattle.statements.proofs.RunSettings.{run_settings_back}

same_code : (m n : ℕ) → number m ≡ number n → m ≡ n
same_code m n e = cc

pub number_read : (m n : ℕ) → number m ≡ number n → n ≡ m
number_read m n e = sym (same_code m n e)

pub blob_read : (a b : List ℕ) → cell.Blob a ≡ cell.Blob b → b ≡ a
blob_read a b e = cc

pub text_read : (a b : List ℕ) → cell.Text a ≡ cell.Text b → b ≡ a
text_read a b e = cc

pub role_read : (a b : Role) → number (role_code a) ≡ number (role_code b) → b ≡ a
role_read a b e = sym (same_role a b (same_code _ _ e))

pub status_read : (a b : RunStatus) → number (status_code a) ≡ number (status_code b) → b ≡ a
status_read a b e = sym (same_status a b (same_code _ _ e))

-- ---- what a row holds is the value that its cells stand for

number_reported : (v : Value) (n : ℕ) → v ≡ number n → n ≡ unsigned_abs (int_of v)
number_reported v n is = ap (λ c. unsigned_abs (int_of c)) (sym is)

text_reported : (v : Value) (t : List ℕ) → v ≡ cell.Text t → t ≡ bytes_of v
text_reported v t is = ap bytes_of (sym is)

flag_reported : (v : Value) (b : Bool) → IsFlagCell v b → b ≡ not (int_eq (int_of v) (pos 0))
flag_reported v b reported = reported.2 ∙ ap (λ c. not (int_eq (int_of c) (pos 0))) (sym reported.1)

some_text_reported : (v : Value) (o : Option (List ℕ)) → IsTextOrNull v o → o ≡ unless_null bytes_of v
some_text_reported v None is = ap (unless_null bytes_of) (sym is)
some_text_reported v (Some t) is = ap (unless_null bytes_of) (sym is)

some_action_reported : (v : Value) (o : Option RunAction) → IsActionOrNull v o → o ≡ unless_null (λ c. action_at (unsigned_abs (int_of c))) v
some_action_reported v None is = ap (unless_null (λ c. action_at (unsigned_abs (int_of c)))) (sym is)
some_action_reported v (Some a) is = ap Some (sym (action_back a)) ∙ ap (unless_null (λ c. action_at (unsigned_abs (int_of c)))) (sym is)

status_reported : (v : Value) (s : RunStatus) → v ≡ number (status_code s) → s ≡ status_at (unsigned_abs (int_of v))
status_reported v s is = sym (status_back s) ∙ ap (λ c. status_at (unsigned_abs (int_of c))) (sym is)

holder_reported : (at : ℕ) (row : Row) (h : Holder) → IsHolderIn at row h → h ≡ holder_at row at
holder_reported at row Nobody is = ap (λ c. holder_of (unsigned_abs (int_of c)) (bytes_at row (at + 1)) (bytes_at row (at + 2)) (number_at row (at + 3))) (sym is)
holder_reported at row (Lock id text) is = λ i. holder_of (number_reported (column row at) 1 is.0 i) (text_reported (column row (at + 1)) id is.1 i) (ap bytes_of (sym is.2) i) (number_at row (at + 3))
holder_reported at row (HeldByRun n) is = λ i. holder_of (number_reported (column row at) 2 is.0 i) (bytes_at row (at + 1)) (bytes_at row (at + 2)) (number_reported (column row (at + 3)) n is.1 i)

pub workspace_reported : (at settings : ℕ) (row : Row) (w : Workspace) → IsWorkspaceIn at settings row w → w ≡ workspace_in_row row at settings
workspace_reported at settings row w reported = λ i. record {
  runs = reported.runs i;
  holder = holder_reported at row w.holder reported.holder i;
  released = some_text_reported (column row (at + 4)) w.released reported.released i;
  next_version = number_reported (column row (at + 5)) w.next_version reported.next_version i;
  next_run = number_reported (column row (at + 6)) w.next_run reported.next_run i;
}

pub version_reported : (at : ℕ) (row : Row) (v : Version) → IsVersionIn at row v → v ≡ version_in_row row at
version_reported at row v reported = λ i. record {
  number = number_reported (column row at) v.number reported.number_is i;
  serial = number_reported (column row (at + 1)) v.serial reported.serial i;
  lineage = text_reported (column row (at + 2)) v.lineage reported.lineage i;
  created = number_reported (column row (at + 3)) v.created reported.created i;
  size = number_reported (column row (at + 4)) v.size reported.size i;
}

pub run_reported : (at : ℕ) (row : Row) (r : Run) → IsRunIn at row r → r ≡ run_in_row row at
run_reported at row r reported = λ i. record {
  number = number_reported (column row at) r.number reported.number_is i;
  plan_only = flag_reported (column row (at + 1)) r.plan_only reported.plan_only i;
  key = some_text_reported (column row (at + 2)) r.key reported.key i;
  message = text_reported (column row (at + 3)) r.message reported.message i;
  created = number_reported (column row (at + 4)) r.created reported.created i;
  status = status_reported (column row (at + 5)) r.status reported.status i;
  action = some_action_reported (column row (at + 6)) r.action reported.action i;
}

-- ---- and the row of a value is read as it

text_back : (o : Option (List ℕ)) → unless_null bytes_of (or_null cell.Text o) ≡ o
text_back None = refl
text_back (Some t) = refl

action_cell_back : (o : Option RunAction) → unless_null (λ v. action_at (unsigned_abs (int_of v))) (or_null (λ a. number (action_code a)) o) ≡ o
action_cell_back None = refl
action_cell_back (Some a) = ap Some (action_back a)

holder_back : (h : Holder) → holder_of (unsigned_abs (int_of (kind_cell h))) (bytes_of (lock_id_cell h)) (bytes_of (lock_text_cell h)) (unsigned_abs (int_of (run_cell h))) ≡ h
holder_back Nobody = refl
holder_back (Lock id text) = refl
holder_back (HeldByRun n) = refl

pub workspace_back : (w : Workspace)
    → workspace_in_row (kind_cell w.holder ∷ lock_id_cell w.holder ∷ lock_text_cell w.holder ∷ run_cell w.holder ∷ or_null cell.Text w.released ∷ number w.next_version ∷ number w.next_run ∷ run_settings_cells w.runs) 0 7 ≡ w
workspace_back w = λ i. record { runs = run_settings_back w.runs i; holder = holder_back w.holder i; released = text_back w.released i; next_version = w.next_version; next_run = w.next_run }

pub run_row_back : (r : Run)
    → run_in_row (number r.number ∷ flag r.plan_only ∷ or_null cell.Text r.key ∷ cell.Text r.message ∷ number r.created ∷ number (status_code r.status) ∷ or_null (λ a. number (action_code a)) r.action ∷ []) 0 ≡ r
run_row_back r = λ i. record {
  number = r.number;
  plan_only = flag_back r.plan_only i;
  key = text_back r.key i;
  message = r.message;
  created = r.created;
  status = status_back r.status i;
  action = action_cell_back r.action i;
}

optional_number_read : (o p : Option ℕ) → IsNumberOrNull (or_null number o) p → p ≡ o
optional_number_read None None reported = refl
optional_number_read None (Some n) reported = absurd (cc)
optional_number_read (Some n) None reported = absurd (cc)
optional_number_read (Some n) (Some m) reported = ap Some (number_read n m reported)

pub named_workspace_read : (name : List ℕ) (w : Workspace) (kept before : Value) (retention last : Option ℕ) → kept ≡ or_null number retention → before ≡ or_null number last → (v : NamedWorkspace)
    → IsNamedRow (kind_cell w.holder ∷ lock_id_cell w.holder ∷ lock_text_cell w.holder ∷ run_cell w.holder ∷ or_null cell.Text w.released ∷ number w.next_version ∷ number w.next_run ∷ cell.Text name ∷ kept ∷ before ∷ run_settings_cells w.runs) v
    → v ≡ record { name = name; it = w; retention = retention; last = last }
named_workspace_read name w kept before retention last is was v reported =
    let it = workspace_reported 0 10 _ v.it reported.it ∙ workspace_back w in
    let number_kept = optional_number_read retention v.retention (subst (λ c. IsNumberOrNull c v.retention) is reported.retention) in
    let number_before = optional_number_read last v.last (subst (λ c. IsNumberOrNull c v.last) was reported.last) in
    λ i. record { name = text_read name v.name reported.name i; it = it i; retention = number_kept i; last = number_before i }

pub organization_read : (name : List ℕ) (cap : ℕ) (o : Organization) → IsOrganization (cell.Text name ∷ number cap ∷ []) o → o ≡ record { name = name; cap = cap }
organization_read name cap o reported = λ i. record { name = text_read name o.name reported.name i; cap = number_read cap o.cap reported.cap i }

pub named_role_read : (name : List ℕ) (role : Role) (r : NamedRole) → cell.Text name ≡ cell.Text r.name → number (role_code role) ≡ number (role_code r.role) → r ≡ record { name = name; role = role }
named_role_read name role r named is = λ i. record { name = text_read name r.name named i; role = role_read role r.role is i }

pub named_token_read : (name : List ℕ) (it : Token) (x : NamedToken) → IsNamedToken (cell.Text name ∷ cell.Blob it.digest ∷ number (role_code it.role) ∷ []) x → x ≡ record { name = name; it = it }
named_token_read name it x reported = λ i. record {
  name = text_read name x.name reported.name i;
  it = record { digest = blob_read it.digest x.it.digest reported.digest i; role = role_read it.role x.it.role reported.role i };
}

pub bound_read : (until : Option ℕ) (prefix : List ℕ) (b : Bounds) → IsBound (or_null number until ∷ cell.Text prefix ∷ []) b → b ≡ record { until = until; prefix = prefix }
bound_read until prefix b reported = λ i. record { until = optional_number_read until b.until reported.until i; prefix = text_read prefix b.prefix reported.prefix i }
