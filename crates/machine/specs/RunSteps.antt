-- The steps of runs: three finite sets of a status, an action, and the status after it (HCP Terraform, 'Run States and Stages', a subset).
-- An action that has no step from a status is refused there.
use Rattle.std.specs.Prelude.{Bool, true, false, ◌&&◌, List, [], ◌∷◌, find, Option, Some, None, option_map}
use Rattle.std.specs.Str.{bytes_eq}
use Rattle.basis.specs.Runs.{status_word, action_word}
use Rattle.basis.specs.declared.runs.RunStatus.{RunStatus}
use Rattle.basis.specs.declared.runs.RunStatus.TheVariants.{Pending, Planning, Planned, Applying, Applied, PlannedAndFinished, Errored, Discarded, Canceled}
use Rattle.basis.specs.declared.runs.RunAction.{RunAction}
use Rattle.basis.specs.declared.runs.RunAction.TheVariants.{ReportPlanned, ReportUnchanged, Fail, Confirm, ReportApplied, Discard, Cancel}

-- a run in one status takes an action, and has the other status after it
pub record RunStep : Type 0 where
  pub from : RunStatus
  pub action : RunAction
  pub to : RunStatus

abbrev pub run_step : RunStatus → RunAction → RunStatus → RunStep
run_step from action to = record { from = from; action = action; to = to }

-- the steps of a plan-only run
abbrev pub plan_only_steps : List RunStep
plan_only_steps =
    run_step Planning ReportPlanned PlannedAndFinished
    ∷ run_step Planning ReportUnchanged PlannedAndFinished
    ∷ run_step Planning Fail Errored
    ∷ run_step Planning Cancel Canceled
    ∷ []

-- the steps of a queued run, by the status that follows its plan
abbrev pub queued_steps : RunStatus → List RunStep
queued_steps planned =
    run_step Pending Discard Discarded
    ∷ run_step Planning ReportPlanned planned
    ∷ run_step Planning ReportUnchanged PlannedAndFinished
    ∷ run_step Planning Fail Errored
    ∷ run_step Planning Cancel Canceled
    ∷ run_step Planned Confirm Applying
    ∷ run_step Planned Discard Discarded
    ∷ run_step Applying ReportApplied Applied
    ∷ run_step Applying Fail Errored
    ∷ run_step Applying Cancel Canceled
    ∷ []

-- the steps of a queued run under auto-apply: it applies at once
abbrev pub auto_apply_steps : List RunStep
auto_apply_steps = queued_steps Applying

-- the steps of any other queued run: it waits for Confirm
abbrev pub confirmed_steps : List RunStep
confirmed_steps = queued_steps Planned

abbrev pub steps_of : (plan_only auto_apply : Bool) → List RunStep
steps_of true auto_apply = plan_only_steps
steps_of false true = auto_apply_steps
steps_of false false = confirmed_steps

-- whether two statuses, or two actions, have the same word
abbrev pub is_status : RunStatus → RunStatus → Bool
is_status a b = bytes_eq (status_word a) (status_word b)

abbrev pub is_action : RunAction → RunAction → Bool
is_action a b = bytes_eq (action_word a) (action_word b)

abbrev pub is_step : RunStatus → RunAction → RunStep → Bool
is_step status action s = is_status s.from status && is_action s.action action

abbrev pub step_in : List RunStep → RunStatus → RunAction → Option RunStatus
step_in steps status action = option_map (λ (s : RunStep). s.to) (find (is_step status action) steps)

-- the status that an action leads to; none if there is no such step
abbrev pub next_status : (plan_only auto_apply : Bool) → RunStatus → RunAction → Option RunStatus
next_status plan_only auto_apply status action = step_in (steps_of plan_only auto_apply) status action

-- whether the action is the run's last
abbrev pub is_last : RunAction → Option RunAction → Bool
is_last action None = false
is_last action (Some last) = is_action last action
