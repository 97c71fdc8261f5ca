-- What a decision needs of a workspace, computed from what the queries find.
use Rattle.std.specs.Prelude.{ℕ, Bool, false, ◌==◌, ◌-◌, cond, List, length, Option, Some, None, is_some, option_map}
use Rattle.std.specs.Option.{unwrap_or}
use Rattle.basis.specs.Numbers.{within}
use Rattle.basis.specs.declared.numbers.TheConstants.{MAX_NUMBER, FIRST_KEPT}
use Rattle.basis.specs.declared.runs.RunStatus.{RunStatus}
use Rattle.machine.specs.Needs.{Needed}
use Rattle.machine.specs.Units.{if_needed}
use Rattle.basis.specs.declared.rows.RunRow.{RunRow as Run}
use Rattle.machine.specs.declared.acts.Newest.{Newest}
use Rattle.machine.specs.declared.acts.Staying.{Staying}
use Rattle.machine.specs.declared.acts.Staying.TheVariants.{StayAll, MakeRoom, StayAtMost}
use Rattle.machine.specs.declared.acts.Unit.{Unit as AnyUnit}
use Rattle.machine.specs.declared.acts.Unit.TheVariants.{Absent, Present}
use Rattle.basis.specs.declared.rows.VersionRow.{VersionRow as Head}
use Rattle.basis.specs.declared.rows.Holder.{Holder}
use Rattle.basis.specs.declared.rows.Holder.TheVariants.{Nobody, Lock, Run as HoldingRun}
use Rattle.statements.specs.declared.rows.Workspace.{Workspace as WorkspaceCells}
use Rattle.statements.specs.Tables.{Tables}
use Rattle.statements.specs.Finds.{cap_of, workspace_of, workspaces_of, newest_of, size_of, first_waiting_of, status_at_number, run_at_number, keyed_run_of, open_runs_of}
use Rattle.texts.specs.Texts.{pages_for, text_of, are_pieces}
use Rattle.tables.specs.Records.{settings_of_cells, retention_at}

-- the status of the holding run
abbrev pub holder_status_in : List ℕ → List ℕ → Holder → Tables → Option RunStatus
holder_status_in org ws Nobody t = None
holder_status_in org ws (Lock id text) t = None
holder_status_in org ws (HoldingRun n) t = status_at_number org ws n t

-- the text of a version, if it has a row
abbrev pub text_in : List ℕ → List ℕ → ℕ → Tables → Option (List ℕ)
text_in org ws n t = option_map (λ size. text_of org ws n size t) (size_of org ws n t)

-- whether a version has the text that it is compared with; the text of a version of another size is not read
abbrev pub has_text : Option (List ℕ) → List ℕ → List ℕ → Head → Tables → Bool
has_text None org ws head t = false
has_text (Some text) org ws head t = cond (head.size == length text) (are_pieces org ws head.number text (pages_for (length text)) t) false

abbrev pub newest_by : Option (List ℕ) → List ℕ → List ℕ → Tables → Head → Newest
newest_by text org ws t head = record { number = head.number; serial = head.serial; lineage = head.lineage; is_same = has_text text org ws head t }

abbrev pub newest_in : Option (List ℕ) → List ℕ → List ℕ → Tables → Option Newest
newest_in text org ws t = option_map (newest_by text org ws t) (newest_of org ws t)

-- the number of versions that a workspace keeps, if that is needed; otherwise that of a new workspace
abbrev pub retention_in : Bool → List ℕ → List ℕ → Tables → ℕ
retention_in needed org ws t = cond needed (retention_at t org ws) FIRST_KEPT

-- whether the version with this number has a row
abbrev pub has_version_in : Option ℕ → List ℕ → List ℕ → Tables → Bool
has_version_in None org ws t = false
has_version_in (Some n) org ws t = is_some (size_of org ws n t)

-- the number that is followed by `staying` others before the next number
abbrev pub number_before : ℕ → ℕ → Option ℕ
number_before next staying = within 1 MAX_NUMBER (next - 1 - staying)

-- the same, if the version with that number has a row
abbrev pub number_behind : ℕ → ℕ → List ℕ → List ℕ → Tables → Option ℕ
number_behind next staying org ws t = cond (has_version_in (number_before next staying) org ws t) (number_before next staying) None

-- the greatest number of the versions to be removed from a workspace that keeps `retention`: the versions that are kept follow it without a gap
abbrev pub outgoing_in : Staying → ℕ → ℕ → List ℕ → List ℕ → Tables → Option ℕ
outgoing_in StayAll retention next org ws t = None
outgoing_in MakeRoom retention next org ws t = number_behind next (retention - 1) org ws t
outgoing_in (StayAtMost staying) retention next org ws t = number_behind next staying org ws t

-- the run with this key, if a key is given
abbrev pub keyed_run_in : Option (List ℕ) → List ℕ → List ℕ → Tables → Option Run
keyed_run_in None org ws t = None
keyed_run_in (Some key) org ws t = keyed_run_of org ws key t

-- the run with this number, or, if none is given, the run with this key
abbrev pub asked_run_in : Option ℕ → Option (List ℕ) → List ℕ → List ℕ → Tables → Option Run
asked_run_in (Some n) key org ws t = run_at_number org ws n t
asked_run_in None key org ws t = keyed_run_in key org ws t

-- if the number of the organization's workspaces is known, they are not counted
abbrev pub unit_at : Needed → Option ℕ → List ℕ → List ℕ → Tables → Option WorkspaceCells → AnyUnit
unit_at need known org ws t None = Absent (cond need.makes (unwrap_or known (workspaces_of org t)) 0) (cond need.makes (unwrap_or (cap_of org t) 0) 0)
unit_at need known org ws t (Some w) = Present (record {
  settings = settings_of_cells (retention_in need.retention org ws t) w;
  holder = w.holder;
  holder_status = if_needed need.holder_status (holder_status_in org ws w.holder t);
  released = w.released;
  next_version = w.next_version;
  next_run = w.next_run;
  newest = if_needed need.newest (newest_in need.text org ws t);
  outgoing = outgoing_in need.outgoing (retention_in need.retention org ws t) w.next_version org ws t;
  first_waiting = if_needed need.waiting (first_waiting_of org ws t);
  has_version = has_version_in need.version org ws t;
  asked_run = asked_run_in need.run need.key org ws t;
  open_runs = cond need.open_runs (open_runs_of org ws t) 0;
})

-- the unit of a workspace for a decision with these needs, by point queries
abbrev pub unit_in : Needed → Option ℕ → List ℕ → List ℕ → Tables → AnyUnit
unit_in need known org ws t = unit_at need known org ws t (workspace_of org ws t)
