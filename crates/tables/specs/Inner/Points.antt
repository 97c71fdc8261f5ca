-- What reads of a store return.
use Rattle.std.specs.Prelude.{ℕ, cond, List, Option, Some, None, is_some, option_map}
use Rattle.std.specs.Option.{unwrap_or}
use Rattle.machine.specs.Needs.{Needed}
use Rattle.machine.specs.Units.{if_needed}
use Rattle.machine.specs.declared.acts.Unit.TheVariants.{Absent, Present}
use Rattle.machine.specs.declared.acts.WorkspaceUnit.{WorkspaceUnit}
use Rattle.basis.specs.declared.rows.Holder.{Holder}
use Rattle.statements.specs.declared.rows.Workspace.{Workspace as WorkspaceCells}
use Rattle.basis.specs.declared.rows.VersionRow.{VersionRow as Head}
use Rattle.statements.specs.Finds.{cap_of, workspace_of, workspaces_of, newest_of, size_of, first_waiting_of, open_runs_of}
use Rattle.statements.specs.Tables.{Tables}
use Rattle.tables.specs.Records.{settings_of_cells}
use Rattle.texts.specs.Texts.{text_of}
use Rattle.tables.specs.Inner.Units.{holder_status_in, newest_by, retention_in, outgoing_in, asked_run_in, text_in, unit_at}
use Rattle.tables.specs.declared.points.UnitRead.{UnitRead}
use Rattle.tables.specs.declared.runs.RunsAround.{RunsAround}
use Rattle.tables.specs.declared.versions.SizedNewest.{SizedNewest}
use Rattle.tables.specs.declared.points.Surroundings.{Surroundings}
use Rattle.tables.specs.declared.versions.VersionSize.{VersionSize}

-- the number of an organization's workspaces and its limit, if the act creates a workspace; if the number is known, they are not counted
abbrev pub absent_in : Needed → Option ℕ → List ℕ → Tables → UnitRead
absent_in need known org t = record { unit = Absent (cond need.makes (unwrap_or known (workspaces_of org t)) 0) (cond need.makes (unwrap_or (cap_of org t) 0) 0); size = None }

abbrev pub runs_in : Needed → List ℕ → List ℕ → Holder → Tables → RunsAround
runs_in need org ws holder t = record {
  holder_status = if_needed need.holder_status (holder_status_in org ws holder t);
  first_waiting = if_needed need.waiting (first_waiting_of org ws t);
  asked_run = asked_run_in need.run need.key org ws t;
  open_runs = cond need.open_runs (open_runs_of org ws t) 0;
}

-- ---- versions, with the numbers of bytes of their texts

abbrev pub sized_by : Option (List ℕ) → List ℕ → List ℕ → Tables → Head → SizedNewest
sized_by text org ws t head = record { newest = newest_by text org ws t head; size = head.size }

abbrev pub sized_in : Option (List ℕ) → List ℕ → List ℕ → Tables → Option SizedNewest
sized_in text org ws t = option_map (sized_by text org ws t) (newest_of org ws t)

-- the version that the act names, if it has a row
abbrev pub size_asked : Option ℕ → List ℕ → List ℕ → Tables → Option VersionSize
size_asked None org ws t = None
size_asked (Some n) org ws t = option_map (λ size. record { number = n; size = size }) (size_of org ws n t)

-- the version that was read
abbrev pub size_from : Option SizedNewest → Option VersionSize → Option VersionSize
size_from None asked = asked
size_from (Some n) asked = Some (record { number = n.newest.number; size = n.size })

-- ---- what surrounds a workspace

abbrev pub around_in : Needed → List ℕ → List ℕ → ℕ → WorkspaceCells → Tables → Surroundings
around_in need org ws retention w t = record {
  newest = if_needed need.newest (sized_in need.text org ws t);
  outgoing = outgoing_in need.outgoing retention w.next_version org ws t;
  asked_version = size_asked need.version org ws t;
  runs = runs_in need org ws w.holder t;
}

abbrev pub workspace_from : ℕ → WorkspaceCells → Surroundings → WorkspaceUnit
workspace_from retention w a = record {
  settings = settings_of_cells retention w;
  holder = w.holder;
  holder_status = a.runs.holder_status;
  released = w.released;
  next_version = w.next_version;
  next_run = w.next_run;
  newest = option_map (λ n. n.newest) a.newest;
  outgoing = a.outgoing;
  first_waiting = a.runs.first_waiting;
  has_version = is_some a.asked_version;
  asked_run = a.runs.asked_run;
  open_runs = a.runs.open_runs;
}

abbrev pub unit_from : ℕ → WorkspaceCells → Surroundings → UnitRead
unit_from retention w a = record { unit = Present (workspace_from retention w a); size = size_from a.newest a.asked_version }

abbrev pub present_in : Needed → List ℕ → List ℕ → WorkspaceCells → Tables → UnitRead
present_in need org ws w t = unit_from (retention_in need.retention org ws t) w (around_in need org ws (retention_in need.retention org ws t) w t)

-- ---- what was read

-- the version that was read, if the workspace exists
abbrev pub size_seen : Needed → List ℕ → List ℕ → Tables → Option WorkspaceCells → Option VersionSize
size_seen need org ws t None = None
size_seen need org ws t (Some w) = size_from (if_needed need.newest (sized_in need.text org ws t)) (size_asked need.version org ws t)

abbrev pub unit_read_at : Needed → Option ℕ → List ℕ → List ℕ → Tables → Option WorkspaceCells → UnitRead
unit_read_at need known org ws t r = record { unit = unit_at need known org ws t r; size = size_seen need org ws t r }

abbrev pub unit_read_in : Needed → Option ℕ → List ℕ → List ℕ → Tables → UnitRead
unit_read_in need known org ws t = unit_read_at need known org ws t (workspace_of org ws t)

-- the text of a version, whose size may be known
abbrev pub text_by : Option ℕ → List ℕ → List ℕ → ℕ → Tables → Option (List ℕ)
text_by None org ws n t = text_in org ws n t
text_by (Some size) org ws n t = Some (text_of org ws n size t)
