-- What the rules on runs come to: nothing changes and no holder is told, or a run is told as it is in the settled workspace. `Rulings` says what every rule comes to.
use Rattle.machine.proofs.Outside.{◌≡◌, ◌⊎◌, inl, inr, ℕ, nat_lt, Bool, true, false, cond, [], ◌∷◌, ◌++◌, Option, Some, None, option_map, refl, ap, ◌∙◌, NotFound, OverLimit, WrongState, Locked, RunAsk, RunStatus, RunAction, Holder}
use Rattle.machine.specs.Effects.{effect}
use Rattle.machine.specs.Workspaces.{max_open_runs, run_of, keyed_run, open_runs}
use Rattle.machine.specs.RunSteps.{next_status, is_last}
use Rattle.machine.specs.Settling.{first_waiting, to_start, settled}
use Rattle.machine.specs.Rules.{refused, held, the_run, Ruling, run_answer, run_shown_with, run_shown_already, new_run, with_run, numbered_run, number_left, make_run, reported, with_report, by_step, report}
use Rattle.machine.specs.Inner.Decisions.{begun_by}
use Rattle.machine.proofs.RunLemmas.{run_of-map, run_of-started, some_run-push}
use Rattle.basis.specs.declared.rows.RunRow.{RunRow as Run}
use Rattle.machine.specs.declared.records.Workspace.{Workspace}

-- nothing changes, and neither a holder is told nor that one holds
pub record IsPlain (ruling : Ruling) (w : Workspace) : Type 0 where
  pub left : ruling.left ≡ Some w
  pub unheld : (holder : Holder) → ruling.answer ≡ held holder → ⊥
  pub unlocked : ruling.answer ≡ refused Locked → ⊥

-- a workspace is changed and settles, and a run is told
pub record IsAnswered (ruling : Ruling) (v : Workspace) : Type 0 where
  pub run : Run
  pub is : ruling ≡ effect (the_run run) (Some (settled v))

abbrev pub Comes : Ruling → Workspace → (Workspace → Type 0) → Type 0
Comes ruling w changed = IsPlain ruling w ⊎ (v : Workspace) × changed v × IsAnswered ruling v

-- the workspace is left: as it was, or changed and settled
pub comes_to : {ruling : Ruling} {w : Workspace} {changed : Workspace → Type 0} → Comes ruling w changed
    → (ruling.left ≡ Some w) ⊎ (v : Workspace) × changed v × (ruling.left ≡ Some (settled v))
comes_to (inl plain) = inl plain.left
comes_to (inr answered) = inr (answered.0, answered.1, ap (λ (x : Ruling). x.left) answered.2.is)

plainly_refused_over : (w : Workspace) → IsPlain (effect (refused OverLimit) (Some w)) w
plainly_refused_over w = record { left = refl; unheld = λ holder e. cc; unlocked = λ e. cc }

plainly_refused_state : (w : Workspace) → IsPlain (effect (refused WrongState) (Some w)) w
plainly_refused_state w = record { left = refl; unheld = λ holder e. cc; unlocked = λ e. cc }

pub plainly_not_found : (w : Workspace) → IsPlain (effect (refused NotFound) (Some w)) w
plainly_not_found w = record { left = refl; unheld = λ holder e. cc; unlocked = λ e. cc }

pub plainly_answered : (r : Run) (w : Workspace) → IsPlain (run_shown_already r w) w
plainly_answered r w = record { left = refl; unheld = λ holder e. cc; unlocked = λ e. cc }

-- what is told of a run that is there
pub answered_of : (n : ℕ) (v : Workspace) (x : Run) → run_of n v.runs ≡ Some x → IsAnswered (run_shown_with n v) v
answered_of n v x e =
    let start : Option ℕ = to_start v.holder (first_waiting v.runs) in
    record {
      run = begun_by start x;
      is = ap (λ (o : Option Run). effect (run_answer o) (Some (settled v))) (run_of-started start n v ∙ ap (option_map (begun_by start)) e);
    }

-- a run is made
abbrev pub IsMade : Workspace → RunAsk → ℕ → Workspace → Type 0
IsMade w ask now v = (n : ℕ) × (number_left w.next_run ≡ Some n) × (v ≡ with_run (new_run n ask now) w)

numbered_comes : (w : Workspace) (ask : RunAsk) (now : ℕ) (m : Option ℕ) → number_left w.next_run ≡ m → Comes (numbered_run m w ask now) w (IsMade w ask now)
numbered_comes w ask now None e = inl (plainly_refused_over w)
numbered_comes w ask now (Some n) e =
    let r : Run = new_run n ask now in
    let found : (x : Run) × (run_of n (w.runs ++ r ∷ []) ≡ Some x) = some_run-push n w.runs r refl in
    inr (with_run r w, (n, e, refl), answered_of n (with_run r w) found.0 found.1)

pub make_comes_by : (w : Workspace) (ask : RunAsk) (now : ℕ) (o : Option Run) → Comes (make_run o w ask now) w (IsMade w ask now)
make_comes_by w ask now (Some r) = inl (plainly_answered r w)
make_comes_by w ask now None = chosen (nat_lt (open_runs w.runs) max_open_runs)
  where
    chosen : (b : Bool) → Comes (cond b (numbered_run (number_left w.next_run) w ask now) (effect (refused OverLimit) (Some w))) w (IsMade w ask now)
    chosen true = numbered_comes w ask now (number_left w.next_run) refl
    chosen false = inl (plainly_refused_over w)

pub make_comes : (w : Workspace) (ask : RunAsk) (now : ℕ) → Comes (make_run (keyed_run ask.key w.runs) w ask now) w (IsMade w ask now)
make_comes w ask now = make_comes_by w ask now (keyed_run ask.key w.runs)

-- a run takes an action
pub record IsReported (w : Workspace) (n : ℕ) (action : RunAction) (v : Workspace) : Type 0 where
  pub run : Run
  pub status : RunStatus
  pub there : run_of n w.runs ≡ Some run
  pub leads : next_status run.plan_only w.settings.runs.auto_apply run.status action ≡ Some status
  pub is : v ≡ with_report n action status w

step_comes : (w : Workspace) (n : ℕ) (action : RunAction) (r : Run) (m : Option RunStatus) → run_of n w.runs ≡ Some r → next_status r.plan_only w.settings.runs.auto_apply r.status action ≡ m
    → Comes (by_step m n action w) w (IsReported w n action)
step_comes w n action r None there leads = inl (plainly_refused_state w)
step_comes w n action r (Some status) there leads =
    let f : Run → Run = reported n action status in
    inr (
      with_report n action status w,
      record { run = r; status = status; there = there; leads = leads; is = refl },
      answered_of n (with_report n action status w) (f r) (run_of-map f (λ x. refl) n w.runs ∙ ap (option_map f) there),
    )

pub report_comes : (w : Workspace) (n : ℕ) (action : RunAction) → Comes (report (run_of n w.runs) n action w) w (IsReported w n action)
report_comes w n action = by_run (run_of n w.runs) refl
  where
    by_run : (o : Option Run) → run_of n w.runs ≡ o → Comes (report o n action w) w (IsReported w n action)
    by_run None e = inl (plainly_not_found w)
    by_run (Some r) e = chosen (is_last action r.action)
      where
        chosen : (b : Bool) → Comes (cond b (run_shown_already r w) (by_step (next_status r.plan_only w.settings.runs.auto_apply r.status action) n action w)) w (IsReported w n action)
        chosen true = inl (plainly_answered r w)
        chosen false = step_comes w n action r (next_status r.plan_only w.settings.runs.auto_apply r.status action) e refl
