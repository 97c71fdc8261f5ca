-- The queue of runs, as laws of the rules: which run is active, which starts, what becomes of a run, and that repeated acts change nothing.
use Rattle.std.specs.Prelude.{◌≡◌, ◌⊎◌, ◌<◌, ◌≤◌, ℕ, Bool, true, false, not, ◌&&◌, List, [], ◌∷◌, length, filter, Some, None}
use Rattle.std.specs.List.{AllByRecursion}
use Rattle.basis.specs.declared.refusals.Refusal.TheVariants.{OverLimit}
use Rattle.basis.specs.declared.rows.RunAsk.{RunAsk}
use Rattle.basis.specs.declared.runs.RunStatus.TheVariants.{Planning}
use Rattle.basis.specs.declared.runs.RunAction.{RunAction}
use Rattle.machine.specs.Workspaces.{run_of, keyed_run, open_runs}
use Rattle.machine.specs.Laws.{is_active, is_pending, holds, IsLawful, IsLawfulIfThere}
use Rattle.machine.specs.Ranges.{IsInRange, IsMoment}
use Rattle.machine.specs.RunSteps.{next_status}
use Rattle.machine.specs.Settling.{is_waiting}
use Rattle.machine.specs.Records.{Seen, there, standing}
use Rattle.machine.specs.Rules.{refused, the_run, rules}
use Rattle.machine.specs.Custody.{IsRefusal}
use Rattle.machine.specs.declared.acts.Act.{Act}
use Rattle.machine.specs.declared.acts.Act.TheVariants.{MakeRun, ReportRun}
use Rattle.basis.specs.declared.rows.RunRow.{RunRow as Run}
use Rattle.machine.specs.declared.records.Workspace.{Workspace}

-- a queued run that is planning, planned or applying
abbrev pub is_active_run : Run → Bool
is_active_run r = is_active r.status && not r.plan_only

-- after every act at most one queued run is active
abbrev pub OneRunIsActive : Type 0
OneRunIsActive = (act : Act) (now : ℕ) (s : Seen) (v : Workspace) → IsInRange act → IsMoment now → IsLawfulIfThere (standing s)
    → (rules act now s).left ≡ Some v → length (filter is_active_run v.runs) ≤ 1

-- after every act a plan-only run is not pending and not the holder
abbrev pub PlanOnlyRunsStayOut : Type 0
PlanOnlyRunsStayOut = (act : Act) (now : ℕ) (s : Seen) (v : Workspace) (n : ℕ) (r : Run) → IsInRange act → IsMoment now → IsLawfulIfThere (standing s)
    → (rules act now s).left ≡ Some v → run_of n v.runs ≡ Some r → r.plan_only ≡ true → (is_pending r.status ≡ false) × (holds v.holder n ≡ false)

-- the run with this number starts: it is not the holder before, and is the holder after
abbrev pub Starts : ℕ → Workspace → Workspace → Type 0
Starts n w v = (holds w.holder n ≡ false) × (holds v.holder n ≡ true)

-- the run was waiting, or this act creates it
abbrev pub WaitedOrIsNew : ℕ → Workspace → Type 0
WaitedOrIsNew n w = ((r : Run) × (run_of n w.runs ≡ Some r) × (is_waiting r ≡ true)) ⊎ (n ≡ w.next_run)

-- a run that starts was waiting or is new, and the runs that are still waiting have greater numbers
abbrev pub RunsStartInOrder : Type 0
RunsStartInOrder = (act : Act) (now : ℕ) (w v : Workspace) (n : ℕ) → IsInRange act → IsMoment now → IsLawful w → (rules act now (there w)).left ≡ Some v → Starts n w v
    → WaitedOrIsNew n w × AllByRecursion (λ (r : Run). is_waiting r ≡ true → n < r.number) v.runs

-- what an act does to a run: nothing; or it was waiting and starts; or it took an action that leads to its new status
abbrev pub GoesOn : Bool → Run → Run → Type 0
GoesOn auto_apply r s =
    ((s.status ≡ r.status) × (s.action ≡ r.action))
    ⊎ (((is_waiting r ≡ true) × (s.status ≡ Planning) × (s.action ≡ r.action))
    ⊎ ((action : RunAction) × (next_status r.plan_only auto_apply r.status action ≡ Some s.status) × (s.action ≡ Some action)))

-- a run is still there, with the same kind, key, message and time, and at most one step further
pub record StaysThere (auto_apply : Bool) (r s : Run) : Type 0 where
  pub number : s.number ≡ r.number
  pub plan_only : s.plan_only ≡ r.plan_only
  pub key : s.key ≡ r.key
  pub message : s.message ≡ r.message
  pub created : s.created ≡ r.created
  pub goes : GoesOn auto_apply r s

abbrev pub RunsStay : Type 0
RunsStay = (act : Act) (now : ℕ) (w v : Workspace) (n : ℕ) (r : Run) → IsLawful w → (rules act now (there w)).left ≡ Some v → run_of n w.runs ≡ Some r
    → (s : Run) × (run_of n v.runs ≡ Some s) × StaysThere w.settings.runs.auto_apply r s

-- acts in their ranges, each at a time in range, one after another, and the workspace that they leave
abbrev pub AreInRange : List (Act × ℕ) → Type 0
AreInRange acts = AllByRecursion (λ (a : Act × ℕ). IsInRange a.0 × IsMoment a.1) acts

abbrev pub Leads : List (Act × ℕ) → Workspace → Workspace → Type 0
Leads [] w u = u ≡ w
Leads (a ∷ acts) w u = (v : Workspace) × ((rules a.0 a.1 (there w)).left ≡ Some v) × Leads acts v u

-- if an accepted action is repeated, whatever happened in between, it changes nothing
abbrev pub ActionsComeAgain : Type 0
ActionsComeAgain = (n : ℕ) (action : RunAction) (now later : ℕ) (acts : List (Act × ℕ)) (w v u : Workspace) → IsLawful w → IsMoment now
    → (IsRefusal (rules (ReportRun n action) now (there w)).answer → ⊥) → (rules (ReportRun n action) now (there w)).left ≡ Some v
    → AreInRange acts → Leads acts v u → (rules (ReportRun n action) later (there u)).left ≡ Some u

-- if an accepted creation of a run with a key is repeated, whatever happened in between, it changes nothing
abbrev pub KeyedCreationsComeAgain : Type 0
KeyedCreationsComeAgain = (ask again : RunAsk) (key : List ℕ) (now later : ℕ) (acts : List (Act × ℕ)) (w v u : Workspace) → ask.key ≡ Some key → again.key ≡ Some key
    → IsInRange (MakeRun ask) → IsLawful w → IsMoment now
    → (IsRefusal (rules (MakeRun ask) now (there w)).answer → ⊥) → (rules (MakeRun ask) now (there w)).left ≡ Some v
    → AreInRange acts → Leads acts v u → (rules (MakeRun again) later (there u)).left ≡ Some u

-- the creation of a run is accepted: the workspace then has the run under the next number, and the answer shows it
pub record RunIsMade (ask : RunAsk) (now : ℕ) (w : Workspace) : Type 0 where
  pub run : Run
  pub after : Workspace
  pub left : (rules (MakeRun ask) now (there w)).left ≡ Some after
  pub stands : run_of w.next_run after.runs ≡ Some run
  pub reported : (rules (MakeRun ask) now (there w)).answer ≡ the_run run

-- a run is created if fewer than 100 are open, a number is left, and no run has its key
abbrev pub HundredRunsAreLetIn : Type 0
HundredRunsAreLetIn = (ask : RunAsk) (now : ℕ) (w : Workspace) → keyed_run ask.key w.runs ≡ None → open_runs w.runs < 100
    → 1 ≤ w.next_run → w.next_run ≤ 1_000_000_000 → RunIsMade ask now w

-- and it is refused if 100 are open
abbrev pub NoMoreRunsAreLetIn : Type 0
NoMoreRunsAreLetIn = (ask : RunAsk) (now : ℕ) (w : Workspace) → keyed_run ask.key w.runs ≡ None → 100 ≤ open_runs w.runs
    → (rules (MakeRun ask) now (there w)).answer ≡ refused OverLimit
