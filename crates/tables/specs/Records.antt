-- The record of an organization that the rows of the tables denote.
use Rattle.std.specs.Prelude.{ℕ, Bool, List, map, filter, Option, option_map, IsSome, IfSome}
use Rattle.std.specs.Option.{unwrap_or}
use Rattle.std.specs.Str.{bytes_eq}
use Rattle.std.specs.FinMap.{FinMap, from_entries}
use Rattle.sqlite_keyed.specs.Lists.{sort_by}
use Rattle.basis.specs.declared.numbers.TheConstants.{FIRST_KEPT}
use Rattle.basis.specs.declared.roles.Role.{Role}
use Rattle.basis.specs.declared.roles.Bounds.{Bounds}
use Rattle.basis.specs.declared.roles.Caller.{Caller}
use Rattle.basis.specs.declared.rows.Settings.{Settings}
use Rattle.machine.specs.Order.{name_cmp}
use Rattle.machine.specs.declared.records.Version.{Version}
use Rattle.basis.specs.declared.rows.RunRow.{RunRow as Run}
use Rattle.machine.specs.declared.records.Token.{Token}
use Rattle.machine.specs.declared.records.Workspace.{Workspace}
use Rattle.machine.specs.declared.records.Organization.{Organization}
use Rattle.basis.specs.declared.rows.VersionRow.{VersionRow as VersionCells}
use Rattle.statements.specs.Rows.{Token as TokenCells}
use Rattle.statements.specs.declared.rows.Workspace.{Workspace as WorkspaceCells}
use Rattle.statements.specs.Rows.{Kept, TokenRow}
use Rattle.statements.specs.Tables.{Tables}
use Rattle.statements.specs.Changes.{is_ws_of, is_version_of, is_run_of}
use Rattle.statements.specs.Finds.{version_cmp, run_cmp, cap_of, named_role_of, bound_of, retention_of, workspace_of}
pub use Rattle.statements.specs.Listings.{no_bounds}
use Rattle.texts.specs.Texts.{text_of}

-- ---- what cells denote

-- the number of versions that a workspace keeps is in a row of its own
abbrev pub settings_of_cells : ℕ → WorkspaceCells → Settings
settings_of_cells retention w = record { runs = w.runs; retention = retention }

-- the cells have the number of the text's bytes; the text is in pages
abbrev pub version_of_cells : List ℕ → VersionCells → Version
version_of_cells text v = record { number = v.number; serial = v.serial; lineage = v.lineage; created = v.created; text = text }

abbrev pub caller_with : Role → Bounds → Caller
caller_with role bounds = record { role = role; until = bounds.until; prefix = bounds.prefix }

abbrev pub token_of_cells : Bounds → TokenCells → Token
token_of_cells bounds t = record { digest = t.digest; caller = caller_with t.role bounds }

-- a workspace with its versions and runs, which have rows of their own
abbrev pub workspace_of_cells : ℕ → WorkspaceCells → List Version → List Run → Workspace
workspace_of_cells retention w versions runs = record {
  settings = settings_of_cells retention w;
  holder = w.holder;
  released = w.released;
  next_version = w.next_version;
  next_run = w.next_run;
  versions = versions;
  runs = runs;
}

-- ---- what rows denote

-- the version of a workspace that a row denotes
abbrev pub version_at : Tables → List ℕ → List ℕ → VersionCells → Version
version_at t org ws v = version_of_cells (text_of org ws v.number v.size t) v

-- the versions of a workspace, in the order of their numbers, whatever the order of their rows
abbrev pub versions_at : Tables → List ℕ → List ℕ → List Version
versions_at t org ws = map (λ x. version_at t org ws x.1.it) (sort_by version_cmp (filter (is_version_of org ws) t.versions))

-- its runs, in the order of their numbers
abbrev pub runs_at : Tables → List ℕ → List ℕ → List Run
runs_at t org ws = map (λ x. x.1.it) (sort_by run_cmp (filter (is_run_of org ws) t.runs))

-- The number of versions that a workspace keeps. Without a row of keeping, as in all versions before the third, it is that of a new
-- workspace.
abbrev pub retention_at : Tables → List ℕ → List ℕ → ℕ
retention_at t org ws = unwrap_or (retention_of org ws t) FIRST_KEPT

-- the workspace that a row denotes
abbrev pub workspace_at : Tables → List ℕ → List ℕ → WorkspaceCells → Workspace
workspace_at t org ws cells_of = workspace_of_cells (retention_at t org ws) cells_of (versions_at t org ws) (runs_at t org ws)

-- the workspace with this name in an organization, if it has a row
abbrev pub workspace_by : Tables → List ℕ → List ℕ → Option Workspace
workspace_by t org ws = option_map (workspace_at t org ws) (workspace_of org ws t)

abbrev pub is_token_of : List ℕ → Kept TokenRow → Bool
is_token_of org x = bytes_eq x.1.org org

-- the bounds of a token are in a row of their own; a token without such a row, as in the first version, has none
abbrev pub bounds_at : Tables → List ℕ → List ℕ → Bounds
bounds_at t org name = unwrap_or (bound_of org name t) no_bounds

-- the token that a row denotes
abbrev pub token_at : Tables → TokenRow → Token
token_at t r = token_of_cells (bounds_at t r.org r.name) r.it

abbrev pub tokens_at : Tables → List ℕ → FinMap name_cmp Token
tokens_at t org = from_entries (map (λ x. (x.1.name, token_at t x.1)) (filter (is_token_of org) t.tokens))

abbrev pub workspaces_at : Tables → List ℕ → FinMap name_cmp Workspace
workspaces_at t org = from_entries (map (λ x. (x.1.name, workspace_at t org x.1.name x.1.it)) (filter (is_ws_of org) t.wss))

abbrev pub organization_at : Tables → List ℕ → ℕ → Organization
organization_at t org cap = record { limit = cap; tokens = tokens_at t org; workspaces = workspaces_at t org }

-- the record of an organization, if it has a row
abbrev pub record_of : Tables → List ℕ → Option Organization
record_of t org = option_map (organization_at t org) (cap_of org t)

-- if the organization has a token with this digest, that token has its row of bound
abbrev pub IsBound : List ℕ → List ℕ → Tables → Type 0
IsBound org digest t = IfSome (named_role_of org digest t) (λ x. IsSome (bound_of org x.name t))
