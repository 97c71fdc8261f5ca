-- What each step of a run does: it leads from an open status to one that isn't pending, and an action that a run took leads there.
use Rattle.machine.proofs.Outside.{◌≡◌, ℕ, Bool, true, false, ◌&&◌, ◌||◌, cond, List, [], ◌∷◌, Some, option_map, refl, sym, ap, subst, ◌∙◌, find, codes, AllByRecursion, bytes_eq, bytes_eq-Decides, and_parts, is_open, status_word, action_word, RunStatus, Pending, Planning, Planned, Applying, Applied, PlannedAndFinished, Errored, Discarded, Canceled, RunAction, ReportPlanned, ReportUnchanged, Fail, Confirm, ReportApplied, Discard, Cancel}
use Rattle.machine.specs.Laws.{is_active, is_pending, IsWhereActionEnds, ends_in}
use Rattle.machine.specs.RunSteps.{RunStep, plan_only_steps, auto_apply_steps, confirmed_steps, is_status, is_action, is_step, step_in, next_status}

-- two statuses of one word are one, and so are two actions
abbrev status_named : List ℕ → RunStatus
status_named word =
    cond (bytes_eq word (codes "pending")) Pending (cond (bytes_eq word (codes "planning")) Planning (cond (bytes_eq word (codes "planned")) Planned
    (cond (bytes_eq word (codes "applying")) Applying (cond (bytes_eq word (codes "applied")) Applied (cond (bytes_eq word (codes "planned_and_finished")) PlannedAndFinished
    (cond (bytes_eq word (codes "errored")) Errored (cond (bytes_eq word (codes "discarded")) Discarded Canceled)))))))

status_back : (s : RunStatus) → status_named (status_word s) ≡ s
status_back Pending = refl
status_back Planning = refl
status_back Planned = refl
status_back Applying = refl
status_back Applied = refl
status_back PlannedAndFinished = refl
status_back Errored = refl
status_back Discarded = refl
status_back Canceled = refl

pub one_status : (a b : RunStatus) → is_status a b ≡ true → a ≡ b
one_status a b e = sym (status_back a) ∙ ap status_named ((bytes_eq-Decides (status_word a) (status_word b)).0 e) ∙ status_back b

pub same_status : (s : RunStatus) → is_status s s ≡ true
same_status s = (bytes_eq-Decides (status_word s) (status_word s)).1 refl

abbrev action_named : List ℕ → RunAction
action_named word =
    cond (bytes_eq word (codes "planned")) ReportPlanned (cond (bytes_eq word (codes "unchanged")) ReportUnchanged (cond (bytes_eq word (codes "fail")) Fail
    (cond (bytes_eq word (codes "confirm")) Confirm (cond (bytes_eq word (codes "applied")) ReportApplied (cond (bytes_eq word (codes "discard")) Discard Cancel)))))

action_back : (a : RunAction) → action_named (action_word a) ≡ a
action_back ReportPlanned = refl
action_back ReportUnchanged = refl
action_back Fail = refl
action_back Confirm = refl
action_back ReportApplied = refl
action_back Discard = refl
action_back Cancel = refl

pub one_action : (a b : RunAction) → is_action a b ≡ true → a ≡ b
one_action a b e = sym (action_back a) ∙ ap action_named ((bytes_eq-Decides (action_word a) (action_word b)).0 e) ∙ action_back b

pub same_action : (a : RunAction) → is_action a a ≡ true
same_action a = (bytes_eq-Decides (action_word a) (action_word a)).1 refl

-- the step that leads on: what holds of all steps holds of it
pub led : (P : RunStatus → RunAction → RunStatus → Type 0) (steps : List RunStep) (from : RunStatus) (action : RunAction) (to : RunStatus)
    → AllByRecursion (λ (s : RunStep). P s.from s.action s.to) steps → step_in steps from action ≡ Some to → P from action to
led P [] from action to all e = absurd (let none : ⊥ = cc in none)
led P (s ∷ steps) from action to all e = passed (is_step from action s) refl e (λ rest. led P steps from action to all.1 rest)
  where
    passed : (b : Bool) → is_step from action s ≡ b → option_map (λ (x : RunStep). x.to) (cond b (Some s) (find (is_step from action) steps)) ≡ Some to
        → (step_in steps from action ≡ Some to → P from action to) → P from action to
    passed true t is more =
        let both : (is_status s.from from ≡ true) × (is_action s.action action ≡ true) = and_parts (is_status s.from from) (is_action s.action action) t in
        let end : s.to ≡ to = cc in
        subst (λ (x : RunStatus). P x action to) (one_status s.from from both.0)
        (subst (λ (x : RunAction). P s.from x to) (one_action s.action action both.1)
        (subst (λ (x : RunStatus). P s.from s.action x) end all.0))
    passed false t is more = more is

-- an action leads where a step of it ends
pub leads_to_end : (steps : List RunStep) (from : RunStatus) (action : RunAction) (to : RunStatus) → step_in steps from action ≡ Some to → ends_in steps action to ≡ true
leads_to_end [] from action to e = absurd (let none : ⊥ = cc in none)
leads_to_end (s ∷ steps) from action to e = passed (is_step from action s) refl e (λ rest. leads_to_end steps from action to rest)
  where
    passed : (b : Bool) → is_step from action s ≡ b → option_map (λ (x : RunStep). x.to) (cond b (Some s) (find (is_step from action) steps)) ≡ Some to
        → (step_in steps from action ≡ Some to → ends_in steps action to ≡ true) → ends_in (s ∷ steps) action to ≡ true
    passed true t is more =
        let both : (is_status s.from from ≡ true) × (is_action s.action action ≡ true) = and_parts (is_status s.from from) (is_action s.action action) t in
        let end : s.to ≡ to = cc in
        rw (both.1, ap (λ (x : RunStatus). is_status x to) end, same_status to) refl
    passed false t is more = later (is_action s.action action && is_status s.to to) (more is)
      where
        later : (c : Bool) → ends_in steps action to ≡ true → (c || ends_in steps action to) ≡ true
        later true rest = refl
        later false rest = rest

either_true : (b c : Bool) → (b ≡ true) → (b || c) ≡ true
either_true b c e = rw e refl

or_true : (b c : Bool) → (c ≡ true) → (b || c) ≡ true
or_true true c e = refl
or_true false c e = e

pub leads_where_it_ends : (plan_only auto_apply : Bool) (from : RunStatus) (action : RunAction) (to : RunStatus) → next_status plan_only auto_apply from action ≡ Some to
    → IsWhereActionEnds plan_only (Some action) to
leads_where_it_ends true auto_apply from action to e = leads_to_end plan_only_steps from action to e
leads_where_it_ends false true from action to e =
    either_true (ends_in auto_apply_steps action to) (ends_in confirmed_steps action to) (leads_to_end auto_apply_steps from action to e)
leads_where_it_ends false false from action to e =
    or_true (ends_in auto_apply_steps action to) (ends_in confirmed_steps action to) (leads_to_end confirmed_steps from action to e)

-- no step ends in pending
pub never_pending : (plan_only auto_apply : Bool) (from : RunStatus) (action : RunAction) (to : RunStatus) → next_status plan_only auto_apply from action ≡ Some to → is_pending to ≡ false
never_pending true auto_apply from action to e = led (λ _ _ t. is_pending t ≡ false) plan_only_steps from action to (refl, (refl, (refl, (refl, tt)))) e
never_pending false true from action to e =
    led (λ _ _ t. is_pending t ≡ false) auto_apply_steps from action to (refl, (refl, (refl, (refl, (refl, (refl, (refl, (refl, (refl, (refl, tt)))))))))) e
never_pending false false from action to e =
    led (λ _ _ t. is_pending t ≡ false) confirmed_steps from action to (refl, (refl, (refl, (refl, (refl, (refl, (refl, (refl, (refl, (refl, tt)))))))))) e

-- every step leads on from an open status
pub from_open : (plan_only auto_apply : Bool) (from : RunStatus) (action : RunAction) (to : RunStatus) → next_status plan_only auto_apply from action ≡ Some to → is_open from ≡ true
from_open true auto_apply from action to e = led (λ f _ _. is_open f ≡ true) plan_only_steps from action to (refl, (refl, (refl, (refl, tt)))) e
from_open false true from action to e =
    led (λ f _ _. is_open f ≡ true) auto_apply_steps from action to (refl, (refl, (refl, (refl, (refl, (refl, (refl, (refl, (refl, (refl, tt)))))))))) e
from_open false false from action to e =
    led (λ f _ _. is_open f ≡ true) confirmed_steps from action to (refl, (refl, (refl, (refl, (refl, (refl, (refl, (refl, (refl, (refl, tt)))))))))) e

-- a queued run that isn't active isn't active after a step
not_from : true ≡ false → {X : Type 0} → X
not_from e = absurd (let none : ⊥ = cc in none)

abbrev StaysIdle : RunStatus → RunAction → RunStatus → Type 0
StaysIdle from action to = is_active from ≡ false → is_active to ≡ false

pub stays_idle : (auto_apply : Bool) (from : RunStatus) (action : RunAction) (to : RunStatus) → next_status false auto_apply from action ≡ Some to → is_active from ≡ false → is_active to ≡ false
stays_idle true from action to e =
    led StaysIdle auto_apply_steps from action to
    ((λ _. refl), ((λ n. not_from n), ((λ _. refl), ((λ _. refl), ((λ _. refl), ((λ n. not_from n), ((λ _. refl), ((λ _. refl), ((λ _. refl), ((λ _. refl), tt)))))))))) e
stays_idle false from action to e =
    led StaysIdle confirmed_steps from action to
    ((λ _. refl), ((λ n. not_from n), ((λ _. refl), ((λ _. refl), ((λ _. refl), ((λ n. not_from n), ((λ _. refl), ((λ _. refl), ((λ _. refl), ((λ _. refl), tt)))))))))) e

-- what is open and not pending is active, and what isn't open isn't active
pub open_is_active : (s : RunStatus) → is_pending s ≡ false → is_open s ≡ true → is_active s ≡ true
open_is_active Pending p o = absurd (let none : ⊥ = cc in none)
open_is_active Planning p o = refl
open_is_active Planned p o = refl
open_is_active Applying p o = refl
open_is_active Applied p o = absurd (let none : ⊥ = cc in none)
open_is_active PlannedAndFinished p o = absurd (let none : ⊥ = cc in none)
open_is_active Errored p o = absurd (let none : ⊥ = cc in none)
open_is_active Discarded p o = absurd (let none : ⊥ = cc in none)
open_is_active Canceled p o = absurd (let none : ⊥ = cc in none)

pub ended_is_idle : (s : RunStatus) → is_open s ≡ false → is_active s ≡ false
ended_is_idle Pending o = refl
ended_is_idle Planning o = absurd (let none : ⊥ = cc in none)
ended_is_idle Planned o = absurd (let none : ⊥ = cc in none)
ended_is_idle Applying o = absurd (let none : ⊥ = cc in none)
ended_is_idle Applied o = refl
ended_is_idle PlannedAndFinished o = refl
ended_is_idle Errored o = refl
ended_is_idle Discarded o = refl
ended_is_idle Canceled o = refl

pub pending_idle : (s : RunStatus) → is_pending s ≡ true → is_active s ≡ false
pending_idle Pending p = refl
pending_idle Planning p = absurd (let none : ⊥ = cc in none)
pending_idle Planned p = absurd (let none : ⊥ = cc in none)
pending_idle Applying p = absurd (let none : ⊥ = cc in none)
pending_idle Applied p = absurd (let none : ⊥ = cc in none)
pending_idle PlannedAndFinished p = absurd (let none : ⊥ = cc in none)
pending_idle Errored p = absurd (let none : ⊥ = cc in none)
pending_idle Discarded p = absurd (let none : ⊥ = cc in none)
pending_idle Canceled p = absurd (let none : ⊥ = cc in none)
