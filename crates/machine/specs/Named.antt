-- What an act names in its workspace: a version or a run, by its number.
use Rattle.std.specs.Prelude.{ℕ, Bool, true, ◌&&◌, Option, Some, None, is_some}
use Rattle.machine.specs.Needs.{Needed}
use Rattle.machine.specs.Units.{version_of}
use Rattle.machine.specs.Workspaces.{run_of}
use Rattle.machine.specs.declared.records.Workspace.{Workspace}

-- the workspace keeps the version that is named, if one is named
abbrev pub keeps_named : Option ℕ → Workspace → Bool
keeps_named None w = true
keeps_named (Some number) w = is_some (version_of number w.versions)

-- the workspace has the run that is named, if one is named
abbrev pub has_named_run : Option ℕ → Workspace → Bool
has_named_run None w = true
has_named_run (Some number) w = is_some (run_of number w.runs)

-- the workspace has what is named
abbrev pub has_named : Needed → Workspace → Bool
has_named need w = keeps_named need.version w && has_named_run need.run w
