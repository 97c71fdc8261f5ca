-- Settling: if the workspace has no holder, the waiting run with the least number starts (HCP Terraform, 'Run States and Stages': a
-- workspace has one active run at a time, and the others wait in the order of their creation).
use Rattle.std.specs.Prelude.{◌≡◌, ◌≤◌, ◌⊎◌, ◌↔◌, ℕ, Bool, true, false, not, ◌&&◌, ◌==◌, cond, List, map, find, Option, Some, None, option_map}
use Rattle.std.specs.List.{AllByRecursion}
use Rattle.basis.specs.declared.runs.RunStatus.TheVariants.{Planning}
use Rattle.machine.specs.Laws.{is_pending, Rises}
use Rattle.machine.specs.Workspaces.{run_of}
use Rattle.basis.specs.declared.rows.Holder.{Holder}
use Rattle.basis.specs.declared.rows.Holder.TheVariants.{Nobody, Lock, Run as HoldingRun}
use Rattle.basis.specs.declared.rows.RunRow.{RunRow as Run}
use Rattle.machine.specs.declared.records.Workspace.{Workspace}

-- a queued run that is pending
abbrev pub is_waiting : Run → Bool
is_waiting r = is_pending r.status && not r.plan_only

-- no run is waiting
abbrev pub NoneWaits : List Run → Type 0
NoneWaits runs = AllByRecursion (λ (r : Run). is_waiting r ≡ false) runs

-- the number of the first waiting run: the least one, since the runs' numbers rise
abbrev pub first_waiting : List Run → Option ℕ
first_waiting runs = option_map (λ (r : Run). r.number) (find is_waiting runs)

-- the run to start; none if the workspace has a holder
abbrev pub to_start : Holder → Option ℕ → Option ℕ
to_start Nobody waiting = waiting
to_start (Lock id text) waiting = None
to_start (HoldingRun n) waiting = None

-- the run with this number is planning; the others are unchanged
abbrev pub begun : ℕ → Run → Run
begun n r = record r { status = cond (r.number == n) Planning r.status }

-- a run starts: it is planning, and it is the holder
abbrev pub started : ℕ → Workspace → Workspace
started n w = record w { holder = HoldingRun n; runs = map (begun n) w.runs }

abbrev pub started_if : Option ℕ → Workspace → Workspace
started_if None w = w
started_if (Some n) w = started n w

-- the workspace after it has settled
abbrev pub settled : Workspace → Workspace
settled w = started_if (to_start w.holder (first_waiting w.runs)) w

-- the waiting run with the least number is planning and is the holder, and everything else is as before
pub record LeastStarts (w v : Workspace) : Type 0 where
  pub run : Run
  pub there : run_of run.number w.runs ≡ Some run
  pub waits : is_waiting run ≡ true
  pub least : AllByRecursion (λ (r : Run). is_waiting r ≡ true → run.number ≤ r.number) w.runs
  pub after : v ≡ started run.number w

-- settling, as a relation of the workspaces before and after it: if the workspace has a holder or no run is waiting they are equal;
-- otherwise a run starts
abbrev pub Settles : Workspace → Workspace → Type 0
Settles w v = (((w.holder ≡ Nobody → NoneWaits w.runs)) × (v ≡ w)) ⊎ ((w.holder ≡ Nobody) × LeastStarts w v)

-- if the runs' numbers rise, as they do in a lawful workspace, the only workspace that this allows is `settled`
abbrev pub SettlesOnce : Type 0
SettlesOnce = (w v : Workspace) → Rises 0 (map (λ (r : Run). r.number) w.runs) w.next_run → Settles w v ↔ (v ≡ settled w)
