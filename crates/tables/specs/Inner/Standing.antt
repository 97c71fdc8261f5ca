-- A workspace as its rows stand, also while they are being added.
use Rattle.std.specs.Prelude.{◌≡◌, ℕ, Bool, false, ◌&&◌, List, map, filter, Option, Some, option_map}
use Rattle.std.specs.Str.{bytes_eq}
use Rattle.basis.specs.declared.rows.RunRow.{RunRow as Run}
use Rattle.machine.specs.declared.records.Version.{Version}
use Rattle.machine.specs.declared.records.Workspace.{Workspace}
use Rattle.statements.specs.declared.rows.Workspace.{Workspace as WorkspaceCells}
use Rattle.statements.specs.declared.making.TheConstants.{SCHEMA_VERSION}
use Rattle.statements.specs.Tables.{Tables}
use Rattle.statements.specs.Changes.{is_version_of, is_run_of}
use Rattle.statements.specs.Finds.{workspace_of}
use Rattle.tables.specs.Records.{version_at, workspace_of_cells, retention_at}
pub use Rattle.tables.specs.Sound.{AreTexts}
use Rattle.tables.specs.Sound.{AreOwnedIn}

abbrev pub is_pair : List ℕ → List ℕ → List ℕ → List ℕ → Bool
is_pair a b p q = bytes_eq p a && bytes_eq q b

-- a workspace has one row and one row of keeping, and each row has the row that it belongs to
abbrev pub AreOwned : Tables → Type 0
AreOwned t = AreOwnedIn SCHEMA_VERSION t.orgs t.wss t.retentions t.versions t.runs

-- ---- as the rows stand

abbrev pub versions_in : Tables → List ℕ → List ℕ → List Version
versions_in t org ws = map (λ x. version_at t org ws x.1.it) (filter (is_version_of org ws) t.versions)

abbrev pub runs_in : Tables → List ℕ → List ℕ → List Run
runs_in t org ws = map (λ x. x.1.it) (filter (is_run_of org ws) t.runs)

abbrev pub workspace_of_rows : Tables → List ℕ → List ℕ → Option Workspace
workspace_of_rows t org ws = option_map (λ (c : WorkspaceCells). workspace_of_cells (retention_at t org ws) c (versions_in t org ws) (runs_in t org ws)) (workspace_of org ws t)

-- The rows of the workspace with this name stand so far for this workspace, in the order in which they are stored. The tables had no such
-- workspace before. What sound tables say about texts and about rows that belong to others holds. Every other workspace is unchanged, and
-- so are organizations, tokens and the version.
pub record StandsSoFar (org ws : List ℕ) (w : Workspace) (t u : Tables) : Type 0 where
  pub metas : u.metas ≡ t.metas
  pub editions : u.editions ≡ t.editions
  pub orgs : u.orgs ≡ t.orgs
  pub tokens : u.tokens ≡ t.tokens
  pub bounds : u.bounds ≡ t.bounds
  pub own : workspace_of_rows u org ws ≡ Some w
  pub others : (a b : List ℕ) → is_pair org ws a b ≡ false → workspace_of_rows u a b ≡ workspace_of_rows t a b
  pub texts : AreTexts u
  pub owned : AreOwned u
