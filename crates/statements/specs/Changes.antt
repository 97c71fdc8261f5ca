-- What each write does to the rows.
use Rattle.std.specs.Prelude.{◌≡◌, ℕ, Bool, false, List, [], ◌∷◌, ◌++◌, map, ◌&&◌, ◌==◌, nat_lt, Option, Some, None}
use Rattle.std.specs.Str.{bytes_eq}
use Rattle.std.specs.List.{AllByRecursion}
use Rattle.sqlite_keyed.specs.Keyed.{next_key}
use Rattle.sqlite_keyed.specs.Lists.{update_where, delete_where}
use Rattle.basis.specs.declared.numbers.TheConstants.{FIRST_KEPT}
use Rattle.basis.specs.declared.roles.Role.{Role}
use Rattle.basis.specs.declared.rows.RunSettings.{RunSettings}
use Rattle.basis.specs.declared.runs.RunStatus.{RunStatus}
use Rattle.basis.specs.declared.runs.RunAction.{RunAction}
use Rattle.basis.specs.declared.rows.Holder.{Holder}
use Rattle.basis.specs.declared.rows.Holder.TheVariants.{Nobody}
use Rattle.basis.specs.declared.rows.VersionRow.{VersionRow as Version}
use Rattle.statements.specs.declared.rows.Workspace.{Workspace}
use Rattle.basis.specs.declared.rows.RunRow.{RunRow as Run}
use Rattle.statements.specs.Rows.{Kept, id_of, Owned, OrgRow, TokenRow, WsRow, VersionRow, RunRow, BoundRow, RetentionRow}
use Rattle.statements.specs.Tables.{Tables}

-- one more row, after the others and with the next rowid
abbrev pub with_next : {R : Type 0} → R → List (Kept R) → List (Kept R)
with_next r xs = xs ++ (next_key id_of xs, r) ∷ []

-- several rows, one after the other
abbrev pub with_all : {R : Type 0} → List R → List (Kept R) → List (Kept R)
with_all [] xs = xs
with_all (r ∷ rs) xs = with_all rs (with_next r xs)

-- ---- the version

-- edition has this version, if it had one
abbrev pub edition_moved : ℕ → Tables → Tables
edition_moved version t = record t { editions = map (λ x. (x.0, version)) t.editions }

-- ---- rows of tokens and of workspaces

-- whether a row has this organization and name
abbrev pub is_of : {T : Type 0} → List ℕ → List ℕ → Kept (Owned T) → Bool
is_of org name x = bytes_eq x.1.org org && bytes_eq x.1.name name

-- a function that is applied to the other columns of such a row
abbrev pub with_it : {T : Type 0} → (T → T) → Kept (Owned T) → Kept (Owned T)
with_it f x = (x.0, record x.1 { it = f x.1.it })

-- ---- organizations

abbrev pub is_org : List ℕ → Kept OrgRow → Bool
is_org name x = bytes_eq x.1.name name

abbrev pub org_row_added : List ℕ → ℕ → Tables → Tables
org_row_added name cap t = record t { orgs = with_next (record { name = name; cap = cap }) t.orgs }

abbrev pub org_row_removed : List ℕ → Tables → Tables
org_row_removed name t = record t { orgs = delete_where (is_org name) t.orgs }

-- the organization's limit of workspaces is this number
abbrev pub org_capped : List ℕ → ℕ → Tables → Tables
org_capped name cap t = record t { orgs = update_where (is_org name) (λ x. (x.0, record x.1 { cap = cap })) t.orgs }

-- ---- tokens

abbrev pub is_token : List ℕ → List ℕ → Kept TokenRow → Bool
is_token = is_of

abbrev pub is_digest_of : List ℕ → List ℕ → Kept TokenRow → Bool
is_digest_of org digest x = bytes_eq x.1.org org && bytes_eq x.1.it.digest digest

abbrev pub token_row_added : List ℕ → List ℕ → List ℕ → Role → Tables → Tables
token_row_added org name digest role t = record t { tokens = with_next (record { org = org; name = name; it = record { digest = digest; role = role } }) t.tokens }

abbrev pub token_row_removed : List ℕ → List ℕ → Tables → Tables
token_row_removed org name t = record t { tokens = delete_where (is_token org name) t.tokens }

-- ---- the expiry and the prefix of tokens

abbrev pub is_bound : List ℕ → List ℕ → Kept BoundRow → Bool
is_bound = is_of

abbrev pub bound_row_added : List ℕ → List ℕ → Option ℕ → List ℕ → Tables → Tables
bound_row_added org name until prefix t = record t { bounds = with_next (record { org = org; name = name; it = record { until = until; prefix = prefix } }) t.bounds }

abbrev pub bound_row_removed : List ℕ → List ℕ → Tables → Tables
bound_row_removed org name t = record t { bounds = delete_where (is_bound org name) t.bounds }

-- no expiry, and the empty prefix
abbrev pub unbounded : TokenRow → BoundRow
unbounded r = record { org = r.org; name = r.name; it = record { until = None; prefix = [] } }

-- each token gets such a row, in the order of the tokens
abbrev pub bounds_filled : Tables → Tables
bounds_filled t = record t { bounds = with_all (map (λ x. unbounded x.1) t.tokens) t.bounds }

-- a token with its expiry and prefix
abbrev pub token_added : List ℕ → List ℕ → List ℕ → Role → Option ℕ → List ℕ → Tables → Tables
token_added org name digest role until prefix t = bound_row_added org name until prefix (token_row_added org name digest role t)

abbrev pub HasNoBound : List ℕ → List ℕ → Tables → Type 0
HasNoBound org name t = AllByRecursion (λ x. is_bound org name x ≡ false) t.bounds

-- the expiry and the prefix are removed first
abbrev pub token_removed : List ℕ → List ℕ → Tables → Tables
token_removed org name t = token_row_removed org name (bound_row_removed org name t)

-- ---- workspaces

abbrev pub is_ws_of : List ℕ → Kept WsRow → Bool
is_ws_of org x = bytes_eq x.1.org org

abbrev pub is_ws : List ℕ → List ℕ → Kept WsRow → Bool
is_ws = is_of

-- a function that is applied to what the row of a workspace holds
abbrev pub ws_changed : (Workspace → Workspace) → List ℕ → List ℕ → Tables → Tables
ws_changed f org name t = record t { wss = update_where (is_ws org name) (with_it f) t.wss }

abbrev pub with_run_settings : RunSettings → Workspace → Workspace
with_run_settings runs w = record w { runs = runs }

abbrev pub held_by : Holder → Workspace → Workspace
held_by holder w = record w { holder = holder }

-- the workspace has no holder, and this is the ID released last
abbrev pub released_from : List ℕ → Workspace → Workspace
released_from id w = record w { holder = Nobody; released = Some id }

abbrev pub with_next_version : ℕ → Workspace → Workspace
with_next_version n w = record w { next_version = n }

abbrev pub with_next_run : ℕ → Workspace → Workspace
with_next_run n w = record w { next_run = n }

-- a workspace that has no holder and never had one; its next version and its next run are 1
abbrev pub workspace_made : RunSettings → Workspace
workspace_made runs = record { runs = runs; holder = Nobody; released = None; next_version = 1; next_run = 1 }

abbrev pub ws_row_added : List ℕ → List ℕ → RunSettings → Tables → Tables
ws_row_added org name runs t = record t { wss = with_next (record { org = org; name = name; it = workspace_made runs }) t.wss }

abbrev pub ws_row_removed : List ℕ → List ℕ → Tables → Tables
ws_row_removed org name t = record t { wss = delete_where (is_ws org name) t.wss }

-- ---- the number of versions that workspaces keep

abbrev pub is_retention : List ℕ → List ℕ → Kept RetentionRow → Bool
is_retention = is_of

abbrev pub retention_row_added : List ℕ → List ℕ → ℕ → Tables → Tables
retention_row_added org ws retention t = record t { retentions = with_next (record { org = org; name = ws; it = retention }) t.retentions }

-- the workspace keeps this many versions
abbrev pub retention_changed : ℕ → List ℕ → List ℕ → Tables → Tables
retention_changed retention org ws t = record t { retentions = update_where (is_retention org ws) (with_it (λ _. retention)) t.retentions }

abbrev pub retention_row_removed : List ℕ → List ℕ → Tables → Tables
retention_row_removed org ws t = record t { retentions = delete_where (is_retention org ws) t.retentions }

-- the number of versions that a new workspace keeps
abbrev pub kept_first : WsRow → RetentionRow
kept_first r = record { org = r.org; name = r.name; it = FIRST_KEPT }

-- each workspace gets such a row, in the order of the workspaces
abbrev pub retentions_filled : Tables → Tables
retentions_filled t = record t { retentions = with_all (map (λ x. kept_first x.1) t.wss) t.retentions }

-- a workspace with the number of versions that it keeps
abbrev pub ws_added : List ℕ → List ℕ → RunSettings → ℕ → Tables → Tables
ws_added org name runs retention t = retention_row_added org name retention (ws_row_added org name runs t)

abbrev pub HasNoRetention : List ℕ → List ℕ → Tables → Type 0
HasNoRetention org ws t = AllByRecursion (λ x. is_retention org ws x ≡ false) t.retentions

-- the number of versions is removed first
abbrev pub ws_removed : List ℕ → List ℕ → Tables → Tables
ws_removed org name t = ws_row_removed org name (retention_row_removed org name t)

-- ---- versions

abbrev pub is_version_of : List ℕ → List ℕ → Kept VersionRow → Bool
is_version_of = is_of

abbrev pub is_version : List ℕ → List ℕ → ℕ → Kept VersionRow → Bool
is_version org ws n x = bytes_eq x.1.org org && (bytes_eq x.1.name ws && x.1.it.number == n)

abbrev pub is_version_below : List ℕ → List ℕ → ℕ → Kept VersionRow → Bool
is_version_below org ws n x = bytes_eq x.1.org org && (bytes_eq x.1.name ws && nat_lt x.1.it.number n)

abbrev pub new_version : ℕ → ℕ → List ℕ → ℕ → ℕ → Version
new_version number serial lineage created size = record { number = number; serial = serial; lineage = lineage; created = created; size = size }

abbrev pub version_added : List ℕ → List ℕ → Version → Tables → Tables
version_added org ws it t = record t { versions = with_next (record { org = org; name = ws; it = it }) t.versions }

abbrev pub version_removed : List ℕ → List ℕ → ℕ → Tables → Tables
version_removed org ws n t = record t { versions = delete_where (is_version org ws n) t.versions }

-- ---- runs

abbrev pub is_run_of : List ℕ → List ℕ → Kept RunRow → Bool
is_run_of = is_of

abbrev pub is_run_row : List ℕ → List ℕ → ℕ → Kept RunRow → Bool
is_run_row org ws n x = bytes_eq x.1.org org && (bytes_eq x.1.name ws && x.1.it.number == n)

abbrev pub run_changed_to : RunStatus → List ℕ → List ℕ → ℕ → Tables → Tables
run_changed_to status org ws n t = record t { runs = update_where (is_run_row org ws n) (with_it (λ r. record r { status = status })) t.runs }

-- the run's last action, and the status that follows it
abbrev pub run_acted : RunStatus → RunAction → List ℕ → List ℕ → ℕ → Tables → Tables
run_acted status action org ws n t = record t { runs = update_where (is_run_row org ws n) (with_it (λ r. record r { status = status; action = Some action })) t.runs }

-- a run with all its parts, the last of which is its last action
abbrev pub run_made : ℕ → Bool → Option (List ℕ) → List ℕ → ℕ → RunStatus → Option RunAction → Run
run_made number plan_only key message created status action = record { number = number; plan_only = plan_only; key = key; message = message; created = created; status = status; action = action }

abbrev pub run_added : List ℕ → List ℕ → Run → Tables → Tables
run_added org ws it t = record t { runs = with_next (record { org = org; name = ws; it = it }) t.runs }

abbrev pub runs_removed : List ℕ → List ℕ → Tables → Tables
runs_removed org ws t = record t { runs = delete_where (is_run_of org ws) t.runs }
