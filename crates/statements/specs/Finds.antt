-- What each query reads of the rows.
use Rattle.std.specs.Prelude.{◌≡◌, ℕ, pos, Bool, true, false, not, ◌&&◌, List, length, filter, find, slice_get, min, Option, Some, None, IfSome, option_map}
use Rattle.std.specs.declared.cmp.Ordering.{Ordering}
use Rattle.std.specs.Ordering.{int_cmp, nat_cmp, ordering_then}
use Rattle.std.specs.Str.{bytes_eq}
use Rattle.sqlite_value.specs.declared.keys.Collation.TheVariants.{Binary}
use Rattle.sqlite_sql.specs.declared.ops.ArithOp.TheVariants.{Sub}
use Rattle.sqlite_sql.specs.declared.ops.CompareOp.TheVariants.{Eq}
use Rattle.sqlite_sql.specs.declared.ops.BinaryOp.TheVariants.{Compare, Arith}
use Rattle.sqlite_sql.specs.Ops.{is_true, binary}
use Rattle.sqlite_keyed.specs.Lists.{sort_by}
use Rattle.basis.specs.declared.roles.Role.{Role}
use Rattle.basis.specs.declared.runs.RunStatus.{RunStatus}
use Rattle.basis.specs.declared.runs.RunStatus.TheVariants.{Pending}
use Rattle.basis.specs.Runs.{is_open}
use Rattle.basis.specs.declared.rows.VersionRow.{VersionRow as Version}
use Rattle.statements.specs.declared.rows.Workspace.{Workspace}
use Rattle.basis.specs.declared.rows.RunRow.{RunRow as Run}
use Rattle.statements.specs.declared.rows.NamedRole.{NamedRole}
use Rattle.statements.specs.declared.rows.BoundedRole.{BoundedRole}
use Rattle.basis.specs.declared.roles.Bounds.{Bounds}
use Rattle.statements.specs.Rows.{Kept, TokenRow, VersionRow, RunRow, BoundRow, id_of, number}
use Rattle.statements.specs.Tables.{Tables}
use Rattle.statements.specs.Changes.{is_org, is_token, is_digest_of, is_bound, is_ws_of, is_ws, is_retention, is_version_of, is_version, is_version_below, is_run_row}

-- SQL counts at most up to its greatest integer
abbrev pub counted : {X : Type 0} → List X → ℕ
counted xs = min (length xs) 9_223_372_036_854_775_807

abbrev pub cap_of : List ℕ → Tables → Option ℕ
cap_of org t = option_map (λ x. x.1.cap) (find (is_org org) t.orgs)

abbrev pub role_of_digest : List ℕ → List ℕ → Tables → Option Role
role_of_digest org digest t = option_map (λ x. x.1.it.role) (find (is_digest_of org digest) t.tokens)

abbrev pub role_of_name : List ℕ → List ℕ → Tables → Option Role
role_of_name org name t = option_map (λ x. x.1.it.role) (find (is_token org name) t.tokens)

abbrev pub named_role : Kept TokenRow → NamedRole
named_role x = record { name = x.1.name; role = x.1.it.role }

-- the name and the role of the token with this digest
abbrev pub named_role_of : List ℕ → List ℕ → Tables → Option NamedRole
named_role_of org digest t = option_map named_role (find (is_digest_of org digest) t.tokens)

abbrev pub bound_in : Kept BoundRow → Bounds
bound_in x = record { until = x.1.it.until; prefix = x.1.it.prefix }

-- the expiry and the prefix of a token with this name
abbrev pub bound_of : List ℕ → List ℕ → Tables → Option Bounds
bound_of org name t = option_map bound_in (find (is_bound org name) t.bounds)

-- the token with this digest, with its expiry and prefix
abbrev pub IsBoundedRoleOf : List ℕ → List ℕ → Option BoundedRole → Tables → Type 0
IsBoundedRoleOf org digest found t = (option_map (λ b. b.token) found ≡ named_role_of org digest t) × IfSome found (λ b. bound_of org b.token.name t ≡ Some b.bounds)

abbrev pub workspace_of : List ℕ → List ℕ → Tables → Option Workspace
workspace_of org name t = option_map (λ x. x.1.it) (find (is_ws org name) t.wss)

-- the number of versions that a workspace with this name keeps
abbrev pub retention_of : List ℕ → List ℕ → Tables → Option ℕ
retention_of org ws t = option_map (λ x. x.1.it) (find (is_retention org ws) t.retentions)

abbrev pub workspaces_of : List ℕ → Tables → ℕ
workspaces_of org t = counted (filter (is_ws_of org) t.wss)

-- the order of versions, and of runs: by their numbers; rows with the same number are in the order in which they are stored
abbrev pub version_cmp : Kept VersionRow → Kept VersionRow → Ordering
version_cmp x y = nat_cmp x.1.it.number y.1.it.number

abbrev pub run_cmp : Kept RunRow → Kept RunRow → Ordering
run_cmp x y = nat_cmp x.1.it.number y.1.it.number

-- the order of rows of versions: by their numbers; those with the same number, by their rowids
abbrev pub by_number : Kept VersionRow → Kept VersionRow → Ordering
by_number x y = ordering_then (int_cmp (pos x.1.it.number) (pos y.1.it.number)) (int_cmp (id_of x) (id_of y))

-- the reverse order: the greatest number comes first
abbrev pub back_by_number : Kept VersionRow → Kept VersionRow → Ordering
back_by_number x y = by_number y x

-- the version with the greatest number
abbrev pub newest_of : List ℕ → List ℕ → Tables → Option Version
newest_of org ws t = option_map (λ x. x.1.it) (slice_get (sort_by back_by_number (filter (is_version_of org ws) t.versions)) 0)

-- whether a number is one less than another, as SQL computes it with integers of 64 bits
abbrev pub is_one_less : ℕ → ℕ → Bool
is_one_less m n = is_true (binary (Compare Eq Binary) (number m) (binary (Arith Sub) (number n) (number 1)))

abbrev pub is_version_before : List ℕ → List ℕ → ℕ → Kept VersionRow → Bool
is_version_before org ws next x = bytes_eq x.1.org org && (bytes_eq x.1.name ws && is_one_less x.1.it.number next)

-- the number before this one, if a version of the workspace has it
abbrev pub version_before : List ℕ → List ℕ → ℕ → Tables → Option ℕ
version_before org ws next t = option_map (λ x. x.1.it.number) (find (is_version_before org ws next) t.versions)

-- the version with the least number among those with numbers below this one
abbrev pub oldest_below : List ℕ → List ℕ → ℕ → Tables → Option Version
oldest_below org ws n t = option_map (λ x. x.1.it) (slice_get (sort_by version_cmp (filter (is_version_below org ws n) t.versions)) 0)

-- the number of bytes of a version's text, if there is such a version
abbrev pub size_of : List ℕ → List ℕ → ℕ → Tables → Option ℕ
size_of org ws n t = option_map (λ x. x.1.it.size) (find (is_version org ws n) t.versions)

abbrev pub is_pending_of : RunStatus → Bool
is_pending_of Pending = true
is_pending_of _ = false

-- a queued run that is pending
abbrev pub is_waiting_of : List ℕ → List ℕ → Kept RunRow → Bool
is_waiting_of org ws x = bytes_eq x.1.org org && (bytes_eq x.1.name ws && (is_pending_of x.1.it.status && not x.1.it.plan_only))

-- the least number of the waiting runs
abbrev pub first_waiting_of : List ℕ → List ℕ → Tables → Option ℕ
first_waiting_of org ws t = option_map (λ x. x.1.it.number) (slice_get (sort_by run_cmp (filter (is_waiting_of org ws) t.runs)) 0)

abbrev pub status_at_number : List ℕ → List ℕ → ℕ → Tables → Option RunStatus
status_at_number org ws n t = option_map (λ x. x.1.it.status) (find (is_run_row org ws n) t.runs)

abbrev pub run_at_number : List ℕ → List ℕ → ℕ → Tables → Option Run
run_at_number org ws n t = option_map (λ x. x.1.it) (find (is_run_row org ws n) t.runs)

-- a run without a key does not have this key
abbrev pub is_key_of : List ℕ → Option (List ℕ) → Bool
is_key_of key None = false
is_key_of key (Some k) = bytes_eq k key

abbrev pub is_run_with_key : List ℕ → List ℕ → List ℕ → Kept RunRow → Bool
is_run_with_key org ws key x = bytes_eq x.1.org org && (bytes_eq x.1.name ws && is_key_of key x.1.it.key)

abbrev pub keyed_run_of : List ℕ → List ℕ → List ℕ → Tables → Option Run
keyed_run_of org ws key t = option_map (λ x. x.1.it) (find (is_run_with_key org ws key) t.runs)

-- a run that has not ended
abbrev pub is_open_run_of : List ℕ → List ℕ → Kept RunRow → Bool
is_open_run_of org ws x = bytes_eq x.1.org org && (bytes_eq x.1.name ws && is_open x.1.it.status)

abbrev pub open_runs_of : List ℕ → List ℕ → Tables → ℕ
open_runs_of org ws t = counted (filter (is_open_run_of org ws) t.runs)
