-- What a decision needs of a workspace.
use Rattle.std.specs.Prelude.{ℕ, ◌-◌, Bool, true, false, ◌==◌, cond, List, [], ◌∷◌, Option, Some, None, is_some, option_map, option_and_then}
use Rattle.std.specs.Option.{option_or}
use Rattle.std.specs.FinMap.{get}
use Rattle.std.specs.Str.{bytes_eq}
use Rattle.basis.specs.declared.numbers.TheConstants.{FIRST_KEPT}
use Rattle.basis.specs.declared.rows.Settings.{Settings}
use Rattle.machine.specs.Records.{count_of}
use Rattle.machine.specs.Workspaces.{newest, outgoing, holder_status, run_of, keyed_run, open_runs}
use Rattle.machine.specs.Settling.{first_waiting}
use Rattle.machine.specs.declared.acts.Act.{Act}
use Rattle.machine.specs.Needs.{Needed, needs}
use Rattle.machine.specs.declared.acts.Newest.{Newest}
use Rattle.machine.specs.declared.acts.Staying.{Staying}
use Rattle.machine.specs.declared.acts.Staying.TheVariants.{StayAll, MakeRoom, StayAtMost}
use Rattle.machine.specs.declared.acts.WorkspaceUnit.{WorkspaceUnit}
use Rattle.machine.specs.declared.acts.Unit.{Unit as AnyUnit}
use Rattle.machine.specs.declared.acts.Unit.TheVariants.{Absent, Present}
use Rattle.machine.specs.declared.records.Organization.{Organization}
use Rattle.basis.specs.declared.rows.RunRow.{RunRow as Run}
use Rattle.machine.specs.declared.records.Version.{Version}
use Rattle.machine.specs.declared.records.Workspace.{Workspace}

-- whether a text equals the one that it is compared with
abbrev pub is_text : Option (List ℕ) → List ℕ → Bool
is_text None text = false
is_text (Some asked) text = bytes_eq text asked

-- the last item that passes a test
abbrev pub find_last : {X : Type 0} → (X → Bool) → List X → Option X
find_last test [] = None
find_last test (x ∷ xs) = option_or (find_last test xs) (cond (test x) (Some x) None)

-- the version with this number
abbrev pub version_of : ℕ → List Version → Option Version
version_of n versions = find_last (λ (v : Version). v.number == n) versions

-- whether the version with this number is kept; false if no number is given
abbrev pub has_version : Option ℕ → List Version → Bool
has_version None versions = false
has_version (Some n) versions = is_some (version_of n versions)

-- the run with this number, or, if none is given, the run with this key
abbrev pub asked_run : Option ℕ → Option (List ℕ) → List Run → Option Run
asked_run (Some n) key runs = run_of n runs
asked_run None key runs = keyed_run key runs

-- a part, if it is needed
abbrev pub if_needed : {X : Type 0} → Bool → Option X → Option X
if_needed true part = part
if_needed false part = None

-- the settings of a workspace; the number of versions kept is that of a new workspace unless it is needed
abbrev pub settings_unit : Bool → Settings → Settings
settings_unit needed s = record s { retention = cond needed s.retention FIRST_KEPT }

-- the greatest number of the versions to be removed from a workspace that keeps `retention`; a version that is added counts as one of those
abbrev pub outgoing_by : Staying → ℕ → List Version → Option ℕ
outgoing_by StayAll retention versions = None
outgoing_by MakeRoom retention versions = outgoing (retention - 1) versions
outgoing_by (StayAtMost staying) retention versions = outgoing staying versions

abbrev pub newest_unit : Option (List ℕ) → Version → Newest
newest_unit text v = record { number = v.number; serial = v.serial; lineage = v.lineage; is_same = is_text text v.text }

abbrev pub unit_for : Needed → Workspace → WorkspaceUnit
unit_for need w = record {
  settings = settings_unit need.retention w.settings;
  holder = w.holder;
  holder_status = if_needed need.holder_status (holder_status w.holder w.runs);
  released = w.released;
  next_version = w.next_version;
  next_run = w.next_run;
  newest = if_needed need.newest (option_map (newest_unit need.text) (newest w.versions));
  outgoing = outgoing_by need.outgoing (settings_unit need.retention w.settings).retention w.versions;
  first_waiting = if_needed need.waiting (first_waiting w.runs);
  has_version = has_version need.version w.versions;
  asked_run = asked_run need.run need.key w.runs;
  open_runs = cond need.open_runs (open_runs w.runs) 0;
}

abbrev pub workspace_unit : Act → Workspace → WorkspaceUnit
workspace_unit act w = unit_for (needs act) w

-- for a missing workspace: the organization's number of workspaces and its limit if the act creates a workspace, otherwise 0 and 0
abbrev pub unit_by : Organization → Act → Option Workspace → AnyUnit
unit_by o act None = Absent (cond (needs act).makes (count_of o) 0) (cond (needs act).makes o.limit 0)
unit_by o act (Some w) = Present (workspace_unit act w)

-- what a decision on an act needs of the workspace with this name
abbrev pub unit_of : Organization → List ℕ → Act → AnyUnit
unit_of o name act = unit_by o act (get o.workspaces name)

-- the text of a version, if the workspace exists and keeps the version
abbrev pub version_text : ℕ → Option Workspace → Option (List ℕ)
version_text n w = option_and_then (λ (v : Workspace). option_map (λ (u : Version). u.text) (version_of n v.versions)) w
