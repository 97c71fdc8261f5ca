-- When the runs of a workspace are lawful, in whatever order their rows stand, as tests.
use Rattle.std.specs.Prelude.{ℕ, Bool, true, false, not, ◌&&◌, ◌||◌, ◌==◌, cond, nat_le, List, [], ◌∷◌, length, map, filter, find, option_map, Option, Some, None}
use Rattle.std.specs.List.{list_all}
use Rattle.std.specs.Option.{unwrap_or}
use Rattle.std.specs.Str.{bytes_eq}
use Rattle.basis.specs.Names.{is_free_id, has_length}
use Rattle.basis.specs.Runs.{is_open}
use Rattle.basis.specs.declared.numbers.TheConstants.{MAX_MOMENT}
use Rattle.basis.specs.declared.runs.RunStatus.{RunStatus}
use Rattle.basis.specs.declared.runs.RunStatus.TheVariants.{Pending, Planning, Planned, Applying, Applied, PlannedAndFinished, Errored, Discarded, Canceled}
use Rattle.basis.specs.declared.runs.RunAction.{RunAction}
use Rattle.basis.specs.declared.rows.Holder.{Holder}
use Rattle.basis.specs.declared.rows.Holder.TheVariants.{Nobody, Lock, Run as HoldingRun}
use Rattle.basis.specs.declared.rows.RunRow.{RunRow as Run}
use Rattle.machine.specs.RunSteps.{plan_only_steps, auto_apply_steps, confirmed_steps}
use Rattle.machine.specs.Laws.{is_active, is_pending, ends_in, holds, is_nobody}
use Rattle.checks.specs.Versions.{first_unfit, rises, sorted}

abbrev pub run_number : Run → ℕ
run_number r = r.number

-- a key has 1 to 64 bytes
abbrev pub is_key : Option (List ℕ) → Bool
is_key None = true
is_key (Some key) = has_length 1 64 key

-- an action ends in a status, whichever way the settings are
abbrev pub action_ends : Bool → RunAction → RunStatus → Bool
action_ends true action status = ends_in plan_only_steps action status
action_ends false action status = ends_in auto_apply_steps action status || ends_in confirmed_steps action status

-- no action has reached a run
abbrev pub is_unreached : RunStatus → Bool
is_unreached Pending = true
is_unreached Planning = true
is_unreached Planned = false
is_unreached Applying = false
is_unreached Applied = false
is_unreached PlannedAndFinished = false
is_unreached Errored = false
is_unreached Discarded = false
is_unreached Canceled = false

-- a run that no action has reached is pending or planning; any other is where its last action ends
abbrev pub is_where_action_ends : Bool → Option RunAction → RunStatus → Bool
is_where_action_ends plan_only None status = is_unreached status
is_where_action_ends plan_only (Some action) status = action_ends plan_only action status

-- a queued run is active exactly where it holds
abbrev pub is_active_rightly : Bool → Bool → Bool → Bool
is_active_rightly plan_only active holding = plan_only || cond holding active (not active)

-- none waits where nobody holds, and a plan-only run never does
abbrev pub waits_rightly : Bool → Bool → Bool → Bool
waits_rightly plan_only pending free = not pending || (not plan_only && not free)

abbrev pub is_run : Holder → Run → Bool
is_run holder r =
    is_key r.key && nat_le (length r.message) 1_000 && nat_le r.created MAX_MOMENT && is_where_action_ends r.plan_only r.action r.status
    && is_active_rightly r.plan_only (is_active r.status) (holds holder r.number) && waits_rightly r.plan_only (is_pending r.status) (is_nobody holder)

-- the number of the first run that isn't as it is to be, if there is one
abbrev pub unfit_run : Holder → List Run → Option ℕ
unfit_run holder = first_unfit (is_run holder) run_number

-- how many haven't ended
abbrev pub count_open : List Run → ℕ
count_open rs = length (filter (λ (r : Run). is_open r.status) rs)

-- another key than this, or none
abbrev pub is_other : List ℕ → Option (List ℕ) → Bool
is_other key None = true
is_other key (Some other) = not (bytes_eq key other)

-- none of them has this key, if it is one
abbrev pub have_others : Option (List ℕ) → List Run → Bool
have_others None rs = true
have_others (Some key) rs = list_all (λ (r : Run). is_other key r.key) rs

-- no two have one key
abbrev pub keys_differ : List Run → Bool
keys_differ [] = true
keys_differ (r ∷ rs) = have_others r.key rs && keys_differ rs

-- the key isn't one of those, or there is none
abbrev pub is_new : (List ℕ → Bool) → Option (List ℕ) → Bool
is_new seen None = true
is_new seen (Some key) = not (seen key)

abbrev pub is_that : List ℕ → Option (List ℕ) → Bool
is_that key None = false
is_that key (Some other) = bytes_eq other key

-- whether the run of this number is a queued one, if there is such a run
abbrev pub queued_in : ℕ → List Run → Option Bool
queued_in n rs = option_map (λ (r : Run). not r.plan_only) (find (λ (r : Run). r.number == n) rs)

abbrev pub is_queued : ℕ → List Run → Bool
is_queued n rs = unwrap_or (queued_in n rs) false

-- a lock's ID is one that names no run, and a holding run is a queued run of the list
abbrev pub is_held : Holder → List Run → Bool
is_held Nobody rs = true
is_held (Lock id text) rs = is_free_id id
is_held (HoldingRun n) rs = is_queued n rs

-- the numbers rise up to the next one, each run is in its ranges, no more than 100 are open, no two have one key, and the holder is one of them
abbrev pub are_runs : Holder → ℕ → List Run → Bool
are_runs holder next rs = rises 0 (sorted (map run_number rs)) next && list_all (is_run holder) rs && nat_le (count_open rs) 100 && is_held holder rs && keys_differ rs
