-- What a change does to the rows, composed of the changes that statements make.
use Rattle.std.specs.Prelude.{◌≡◌, ℕ, zero, suc, ◌+◌, Bool, true, cond, List, length, Option, Some, None, is_some, ⊤}
use Rattle.basis.specs.declared.rows.RunAsk.{RunAsk}
use Rattle.basis.specs.declared.rows.Settings.{Settings}
use Rattle.basis.specs.declared.runs.RunStatus.TheVariants.{Pending, Planning}
use Rattle.machine.specs.declared.acts.Edit.{Edit}
use Rattle.machine.specs.declared.acts.Edit.TheVariants.{Make, Configure, Remove, AddVersion, Purge, Hold, Release, AddRun, Report}
use Rattle.machine.specs.declared.acts.Change.{Change}
use Rattle.machine.specs.declared.records.Version.{Version}
use Rattle.basis.specs.declared.rows.Holder.TheVariants.{Nobody, Lock, Run as HeldByRun}
use Rattle.statements.specs.declared.rows.Workspace.{Workspace as WorkspaceCells}
use Rattle.statements.specs.Tables.{Tables}
use Rattle.statements.specs.Changes.{with_run_settings, held_by, released_from, with_next_version, with_next_run, ws_changed, retention_changed, ws_added, ws_removed, new_version, version_added, version_removed, run_made, run_added, runs_removed, run_changed_to, run_acted}
use Rattle.statements.specs.Finds.{workspace_of, oldest_below, size_of}
use Rattle.basis.specs.declared.rows.VersionRow.{VersionRow as Head}
use Rattle.texts.specs.Texts.{pages_for, text_added, text_removed, TwinsFit}
use Rattle.basis.specs.declared.numbers.TheConstants.{MAX_NUMBER, MAX_KEPT}

-- ---- removed versions

-- a version is removed with its text
abbrev pub version_gone : List ℕ → List ℕ → Head → Tables → Tables
version_gone org ws head t = text_removed org ws head.number head.size (version_removed org ws head.number t)

abbrev pub first_gone : List ℕ → List ℕ → Option Head → Tables → Tables
first_gone org ws None t = t
first_gone org ws (Some head) t = version_gone org ws head t

-- the version with the least number among those with numbers below this one is removed, if there is one
abbrev pub oldest_gone : List ℕ → List ℕ → ℕ → Tables → Tables
oldest_gone org ws below t = first_gone org ws (oldest_below org ws below t) t

-- a given number are removed, one after the other
unfoldable pub so_many_gone : ℕ → List ℕ → List ℕ → ℕ → Tables → Tables
so_many_gone zero org ws below t = t
so_many_gone (suc many) org ws below t = oldest_gone org ws below (so_many_gone many org ws below t)

-- at most this many versions are removed at once: a workspace keeps no more, and one more has been added before others are removed
abbrev pub most_gone : ℕ
most_gone = MAX_KEPT + 1

-- the versions with numbers below this one are removed
unfoldable pub gone_below : List ℕ → List ℕ → ℕ → Tables → Tables
gone_below org ws below t = so_many_gone most_gone org ws below t

-- all versions are removed: no number is above the greatest
abbrev pub all_gone : List ℕ → List ℕ → Tables → Tables
all_gone org ws t = gone_below org ws (MAX_NUMBER + 1) t

-- ---- edits

-- a workspace is removed after its versions and runs
abbrev pub removed_rows : List ℕ → List ℕ → Tables → Tables
removed_rows org ws t = ws_removed org ws (runs_removed org ws (all_gone org ws t))

-- a new workspace has no versions and no runs
abbrev pub made_rows : List ℕ → List ℕ → Settings → Tables → Tables
made_rows org ws settings t = ws_added org ws settings.runs settings.retention t

abbrev pub numbered_rows : List ℕ → List ℕ → Version → Tables → Tables
numbered_rows org ws v t = ws_changed (with_next_version (v.number + 1)) org ws t

abbrev pub row_added : List ℕ → List ℕ → Version → Tables → Tables
row_added org ws v t = version_added org ws (new_version v.number v.serial v.lineage v.created (length v.text)) t

-- a version is added after the others, with its text
abbrev pub added_rows : (ℕ → List ℕ) → List ℕ → List ℕ → Version → Tables → Tables
added_rows keys org ws v t = text_added keys org ws v.number v.text (row_added org ws v t)

-- those with numbers up to this one are removed
abbrev pub left_rows : Option ℕ → List ℕ → List ℕ → Tables → Tables
left_rows None org ws t = t
left_rows (Some last) org ws t = gone_below org ws (last + 1) t

-- settings are set, in two rows
abbrev pub settings_rows : List ℕ → List ℕ → Settings → Tables → Tables
settings_rows org ws settings t = retention_changed settings.retention org ws (ws_changed (with_run_settings settings.runs) org ws t)

-- settings are set, and versions with numbers up to this one are removed
abbrev pub configured_rows : List ℕ → List ℕ → Settings → Option ℕ → Tables → Tables
configured_rows org ws settings outgoing t = left_rows outgoing org ws (settings_rows org ws settings t)

-- a version is added, and those with numbers up to this one are removed
abbrev pub versioned_rows : (ℕ → List ℕ) → List ℕ → List ℕ → Version → Option ℕ → Tables → Tables
versioned_rows keys org ws v outgoing t = left_rows outgoing org ws (added_rows keys org ws v (numbered_rows org ws v t))

-- each page of the text of a new version gets a twin number that SQL has
abbrev pub FitsTwins : (ℕ → List ℕ) → List ℕ → List ℕ → Version → Tables → Type 0
FitsTwins keys org ws v t = TwinsFit keys org ws v.number v.text (pages_for (length v.text)) (row_added org ws v t)

-- A version can be added: its workspace exists, no version has its number, and each page of its text gets a twin number that SQL has.
pub record TakesVersion (keys : ℕ → List ℕ) (org ws : List ℕ) (v : Version) (t : Tables) : Type 0 where
  pub there : is_some (workspace_of org ws t) ≡ true
  pub fresh : size_of org ws v.number t ≡ None
  pub fits : FitsTwins keys org ws v (numbered_rows org ws v t)

-- the change of an existing workspace; a missing one does not change
abbrev pub if_there : Option WorkspaceCells → Tables → Tables → Tables
if_there None after t = t
if_there (Some w) after t = after

-- a run is added after the others: a plan-only run is planning, and a queued run is pending
abbrev pub run_put : List ℕ → List ℕ → ℕ → RunAsk → ℕ → Tables → Tables
run_put org ws number ask created t = run_added org ws (run_made number ask.plan_only ask.key ask.message created (cond ask.plan_only Planning Pending) None) t

abbrev pub run_counted : List ℕ → List ℕ → ℕ → Tables → Tables
run_counted org ws number t = ws_changed (with_next_run (number + 1)) org ws t

abbrev pub run_rows : List ℕ → List ℕ → ℕ → RunAsk → ℕ → Tables → Tables
run_rows org ws number ask created t = if_there (workspace_of org ws t) (run_put org ws number ask created (run_counted org ws number t)) t

-- the workspace has no holder any more, if a run frees it
abbrev pub freed_rows : Bool → List ℕ → List ℕ → Tables → Tables
freed_rows frees org ws t = cond frees (ws_changed (held_by Nobody) org ws t) t

-- after an edit
abbrev pub edited_rows : (ℕ → List ℕ) → List ℕ → List ℕ → Edit → Tables → Tables
edited_rows keys org ws (Make settings) t = made_rows org ws settings t
edited_rows keys org ws (Configure settings outgoing) t = configured_rows org ws settings outgoing t
edited_rows keys org ws Remove t = removed_rows org ws t
edited_rows keys org ws (AddVersion version outgoing) t = versioned_rows keys org ws version outgoing t
edited_rows keys org ws Purge t = all_gone org ws t
edited_rows keys org ws (Hold id text) t = ws_changed (held_by (Lock id text)) org ws t
edited_rows keys org ws (Release id) t = ws_changed (released_from id) org ws t
edited_rows keys org ws (AddRun number ask created) t = run_rows org ws number ask created t
edited_rows keys org ws (Report number action status frees) t = freed_rows frees org ws (run_acted status action org ws number t)

-- the run is the holder, and is planning
abbrev pub begun_rows : List ℕ → List ℕ → ℕ → Tables → Tables
begun_rows org ws n t = run_changed_to Planning org ws n (ws_changed (held_by (HeldByRun n)) org ws t)

-- after a run has started, if one does
abbrev pub started_rows : List ℕ → List ℕ → Option ℕ → Tables → Tables
started_rows org ws None t = t
started_rows org ws (Some n) t = begun_rows org ws n t

-- after a change
abbrev pub changed_rows : (ℕ → List ℕ) → List ℕ → List ℕ → Change → Tables → Tables
changed_rows keys org ws change t = started_rows org ws change.start (edited_rows keys org ws change.edit t)

-- what the rows have to satisfy for an edit that is done
abbrev pub TakesEdit : (ℕ → List ℕ) → List ℕ → List ℕ → Edit → Tables → Type 0
TakesEdit keys org ws (AddVersion version outgoing) t = TakesVersion keys org ws version t
TakesEdit keys org ws (Make settings) t = workspace_of org ws t ≡ None
TakesEdit keys org ws (Configure settings outgoing) t = ⊤
TakesEdit keys org ws Remove t = ⊤
TakesEdit keys org ws Purge t = ⊤
TakesEdit keys org ws (Hold id text) t = ⊤
TakesEdit keys org ws (Release id) t = ⊤
TakesEdit keys org ws (AddRun number ask created) t = ⊤
TakesEdit keys org ws (Report number action status frees) t = ⊤
