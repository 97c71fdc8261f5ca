-- How an organization is copied, row by row, inside one transaction.
use Rattle.std.specs.Prelude.{◌≡◌, ℕ, true, List, ◌++◌, map, Option, Some, None, IsTrue, Result, OnOk, OnErr}
use Rattle.std.specs.List.{list_any}
use Rattle.sqlite_trees.specs.declared.store.Store.{Ghosts}
use Rattle.sqlite.specs.Held.{state}
use Rattle.sqlite.specs.State.{State, HasCleanDisk, KeepsCommit}
use Rattle.sqlite.specs.declared.transaction.Transaction.{Transaction}
use Rattle.basis.specs.declared.rows.Holder.{Holder}
use Rattle.basis.specs.declared.rows.Holder.TheVariants.{Nobody, Lock, Run as HeldByRun}
use Rattle.basis.specs.declared.rows.RunRow.{RunRow as Run}
use Rattle.basis.specs.declared.rows.VersionRow.{VersionRow as Head}
use Rattle.machine.specs.declared.records.Version.{Version}
use Rattle.machine.specs.declared.records.Workspace.{Workspace}
use Rattle.statements.specs.declared.rows.Workspace.{Workspace as WorkspaceCells}
use Rattle.statements.specs.Tables.{Tables, Holds}
use Rattle.statements.specs.Changes.{is_org, with_next_version, with_next_run, held_by, released_from, ws_changed, ws_added}
use Rattle.tables.specs.Records.{version_at, workspace_of_cells, workspace_by}
use Rattle.tables.specs.Sound.{IsSound}
use Rattle.tables.specs.Inner.Standing.{StandsSoFar}

-- ---- steps with a relation between the rows before and after them

-- the transaction stays open; if nothing was done, it is not known that the connection was open
pub record Relates (R : Tables → Tables → Type 0) (old new : State) : Type 0 where
  pub rows : (t : Tables) → Holds old.now t → (u : Tables) × Holds new.now u × R t u
  pub was_open : IsTrue new.is_open → IsTrue old.is_open
  pub committed : new.committed ≡ old.committed
  pub inside : IsTrue new.in_transaction

-- What any number of statements in a transaction promise, as in `Steps`; but a relation connects the rows before and after them.
pub record RelatedSteps {S X E : Type 0} (g : Ghosts S) (R : Tables → Tables → Type 0) (old new : Transaction S) (result : Result X E) : Type 0 where
  pub same_reference : new.conn.ghost_name ≡ old.conn.ghost_name
  pub changed : HasCleanDisk (state g new.conn.now) → IsTrue (state g old.conn.now).in_transaction
      → OnOk result (Relates R (state g old.conn.now) (state g new.conn.now)) × OnErr result (KeepsCommit (state g old.conn.now) (state g new.conn.now))
  pub so_far : HasCleanDisk (state g new.conn.now) → HasCleanDisk (state g old.conn.now)
  pub shield : (state g old.conn.now).IsShielded → (state g new.conn.now).IsShielded

-- the function computes the rows after from the rows before
abbrev pub AreMadeBy : (Tables → Tables) → Tables → Tables → Type 0
AreMadeBy f t u = u ≡ f t

-- ---- the row of a workspace

abbrev pub released_rows : List ℕ → List ℕ → Option (List ℕ) → Tables → Tables
released_rows org ws None t = t
released_rows org ws (Some id) t = ws_changed (released_from id) org ws t

abbrev pub held_rows : List ℕ → List ℕ → Holder → Tables → Tables
held_rows org ws Nobody t = t
held_rows org ws (Lock id text) t = ws_changed (held_by (Lock id text)) org ws t
held_rows org ws (HeldByRun n) t = ws_changed (held_by (HeldByRun n)) org ws t

abbrev pub counted_rows : List ℕ → List ℕ → WorkspaceCells → Tables → Tables
counted_rows org ws w t = ws_changed (with_next_run w.next_run) org ws (ws_changed (with_next_version w.next_version) org ws t)

-- a workspace is added, with its next numbers, the ID released last, its holder, and the number of versions that it keeps
abbrev pub head_rows : List ℕ → List ℕ → WorkspaceCells → ℕ → Tables → Tables
head_rows org ws w retention t = held_rows org ws w.holder (released_rows org ws w.released (counted_rows org ws w (ws_added org ws w.runs retention t)))

-- ---- a workspace, part by part

-- if the rows stand so far for a workspace, they stand afterwards for what this function makes of it
abbrev pub Carries : List ℕ → List ℕ → (Workspace → Workspace) → Tables → Tables → Type 0
Carries org ws f t u = (first : Tables) (w : Workspace) → StandsSoFar org ws w first t → StandsSoFar org ws (f w) first u

abbrev pub with_versions : List Version → Workspace → Workspace
with_versions versions w = record w { versions = w.versions ++ versions }

abbrev pub with_runs : List Run → Workspace → Workspace
with_runs runs w = record w { runs = w.runs ++ runs }

-- a workspace that did not exist is added to sound tables that have its organization
abbrev pub Begins : List ℕ → List ℕ → Workspace → Tables → Tables → Type 0
Begins org ws w t u = IsSound t → list_any (is_org org) t.orgs ≡ true → StandsSoFar org ws w t u

-- ---- what is copied

-- A workspace without the texts of its versions, as it was read. With the texts it is the one that the rows denote.
pub record IsWhole (org ws : List ℕ) (f : Tables) (it : WorkspaceCells) (retention : ℕ) (versions : List Head) (runs : List Run) : Type 0 where
  pub is : workspace_by f org ws ≡ Some (workspace_of_cells retention it (map (version_at f org ws) versions) runs)
