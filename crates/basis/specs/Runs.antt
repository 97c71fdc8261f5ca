-- Statuses and actions of runs, in the words of HCP Terraform's 'Run States and Stages' (a subset).
use Rattle.std.specs.Prelude.{Bool, true, false, List, ℕ, codes}
use Rattle.basis.specs.declared.runs.RunStatus.{RunStatus}
use Rattle.basis.specs.declared.runs.RunStatus.TheVariants.{Pending, Planning, Planned, Applying, Applied, PlannedAndFinished, Errored, Discarded, Canceled}
use Rattle.basis.specs.declared.runs.RunAction.{RunAction}
use Rattle.basis.specs.declared.runs.RunAction.TheVariants.{ReportPlanned, ReportUnchanged, Fail, Confirm, ReportApplied, Discard, Cancel}

abbrev pub status_word : RunStatus → List ℕ
status_word Pending = codes "pending"
status_word Planning = codes "planning"
status_word Planned = codes "planned"
status_word Applying = codes "applying"
status_word Applied = codes "applied"
status_word PlannedAndFinished = codes "planned_and_finished"
status_word Errored = codes "errored"
status_word Discarded = codes "discarded"
status_word Canceled = codes "canceled"

-- a run that hasn't ended
abbrev pub is_open : RunStatus → Bool
is_open Pending = true
is_open Planning = true
is_open Planned = true
is_open Applying = true
is_open Applied = false
is_open PlannedAndFinished = false
is_open Errored = false
is_open Discarded = false
is_open Canceled = false

abbrev pub action_word : RunAction → List ℕ
action_word ReportPlanned = codes "planned"
action_word ReportUnchanged = codes "unchanged"
action_word Fail = codes "fail"
action_word Confirm = codes "confirm"
action_word ReportApplied = codes "applied"
action_word Discard = codes "discard"
action_word Cancel = codes "cancel"
