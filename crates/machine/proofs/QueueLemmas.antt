-- The queue: who is active, who starts, what becomes of a run, and what comes again.
use Rattle.machine.proofs.Outside.{◌≡◌, ◌⊎◌, inl, inr, ℕ, ◌<◌, ◌≤◌, ◌==◌, nat_lt, Bool, true, false, not, ◌&&◌, ◌||◌, cond, List, [], ◌∷◌, ◌++◌, length, map, filter, Option, Some, None, option_map, is_some, IsSomeAnd, refl, sym, ap, subst, ◌∙◌, arith, eq-eqb, eqb-true, find, AllByRecursion, eqb-false, lt-ltb, le-ltb, bytes_eq-Decides, same_Some, is_open, RunAsk, OverLimit, RunStatus, Pending, Planning, Planned, Applying, Applied, PlannedAndFinished, Errored, Discarded, Canceled, RunAction, ReportPlanned, ReportUnchanged, Fail, Confirm, ReportApplied, Discard, Cancel, Holder}
use Rattle.machine.specs.Effects.{effect}
use Rattle.machine.specs.Laws.{Rises, is_active, is_pending, holds, IsWhereActionEnds, ends_in, IsRun, IsHolder, IsLawful, IsLawfulIfThere}
use Rattle.machine.specs.Ranges.{IsInRange, IsMoment}
use Rattle.machine.specs.Records.{Seen, there, standing}
use Rattle.machine.specs.Workspaces.{max_open_runs, run_of, is_keyed, has_key, keyed_run, open_runs}
use Rattle.machine.specs.RunSteps.{RunStep, plan_only_steps, auto_apply_steps, confirmed_steps, next_status, is_action, is_status, is_last}
use Rattle.machine.specs.Settling.{is_waiting, first_waiting, to_start, begun, started_if, settled}
use Rattle.machine.specs.Rules.{Outcome, refused, Ruling, rules, run_answer, with_version, with_settings, purged, locked, released, new_run, with_run, number_left, numbered_run, make_run, reported, frees, with_report, run_shown_with, run_shown_already, by_step, report}
use Rattle.machine.specs.Custody.{IsRefusal}
use Rattle.machine.specs.Queue.{is_active_run, OneRunIsActive, PlanOnlyRunsStayOut, Starts, WaitedOrIsNew, RunsStartInOrder, GoesOn, StaysThere, RunsStay, AreInRange, Leads, ActionsComeAgain, KeyedCreationsComeAgain, HundredRunsAreLetIn, NoMoreRunsAreLetIn}
use Rattle.machine.specs.Inner.Decisions.{status_begun, begun_by}
use Rattle.machine.specs.declared.acts.Act.{Act}
use Rattle.machine.specs.declared.acts.Act.TheVariants.{MakeRun, ReportRun}
use Rattle.basis.specs.declared.rows.Holder.TheVariants.{Nobody, Lock, Run as HoldingRun}
use Rattle.basis.specs.declared.rows.RunRow.{RunRow as Run}
use Rattle.machine.specs.declared.records.Workspace.{Workspace}
use Rattle.machine.proofs.StepLemmas.{led, one_status, one_action, never_pending}
use Rattle.machine.proofs.RunLemmas.{some_run-push, run_of-number, run_of-map, run_of-started, all_found, numbers-map, Rises-more}
use Rattle.machine.proofs.RunRulings.{IsMade, IsReported}
use Rattle.machine.proofs.Rulings.{Way, version_comes, versions_go, settings_come, lock_comes, lock_goes, run_comes, run_goes_on, Leaves, leaves, key_is_there}
use Rattle.machine.proofs.RuleLemmas.{rules_are_lawful}
use Rattle.machine.proofs.LawLemmas.{number_left-is, in_range_is_left}
use Rattle.machine.proofs.SettlingLemmas.{least_starts}
use Rattle.machine.proofs.SettlesLemmas.{found_passes}

abbrev pub numbers : List Run → List ℕ
numbers runs = map (λ (r : Run). r.number) runs

-- where numbers rise, a run that is found by whatever test is found by its number
found_numbered : (test : Run → Bool) (low : ℕ) (runs : List Run) (next : ℕ) (f : Run) → find test runs ≡ Some f → Rises low (numbers runs) next → (low < f.number) × (run_of f.number runs ≡ Some f)
found_numbered test low [] next f found rise = absurd (let none : ⊥ = cc in none)
found_numbered test low (r ∷ runs) next f found rise = passed (test r) found (λ is. found_numbered test r.number runs next f is rise.2)
  where
    passed : (b : Bool) → cond b (Some r) (find test runs) ≡ Some f → (find test runs ≡ Some f → (r.number < f.number) × (run_of f.number runs ≡ Some f))
        → (low < f.number) × (run_of f.number (r ∷ runs) ≡ Some f)
    passed true is more =
        let one : r ≡ f = cc in (
          omega (arith, ap (λ (x : Run). x.number) one, rise.0),
          ap (λ (b : Bool). cond b (Some r) (run_of f.number runs)) (eq-eqb r.number f.number (ap (λ (x : Run). x.number) one)) ∙ ap Some one,
        )
    passed false is more =
        let rest : (r.number < f.number) × (run_of f.number runs ≡ Some f) = more is in
        (omega (arith, rest.0, rise.0), apart rest (r.number == f.number) refl)
      where
        apart : (r.number < f.number) × (run_of f.number runs ≡ Some f) → (b : Bool) → (r.number == f.number) ≡ b → cond b (Some r) (run_of f.number runs) ≡ Some f
        apart rest true t = absurd (omega (arith, rest.0, eqb-true r.number f.number t))
        apart rest false t = rest.1

-- ---- who is active

holds_one : (h : Holder) (a b : ℕ) → holds h a ≡ true → holds h b ≡ true → a ≡ b
holds_one Nobody a b x y = absurd (let none : ⊥ = cc in none)
holds_one (Lock id text) a b x y = absurd (let none : ⊥ = cc in none)
holds_one (HoldingRun m) a b x y = sym (eqb-true m a x) ∙ eqb-true m b y

active_holds : (h : Holder) (r : Run) → IsRun h r → is_active_run r ≡ true → holds h r.number ≡ true
active_holds h r is e = both (is_active r.status) refl r.plan_only refl e
  where
    both : (b : Bool) → is_active r.status ≡ b → (c : Bool) → r.plan_only ≡ c → (b && not c) ≡ true → holds h r.number ≡ true
    both true t false k e = sym (is.active k) ∙ t
    both true t true k e = absurd (let none : ⊥ = cc in none)
    both false t c k e = absurd (let none : ⊥ = cc in none)

none_active : (h : Holder) (n low : ℕ) (runs : List Run) (next : ℕ) → n ≤ low → holds h n ≡ true → Rises low (numbers runs) next → AllByRecursion (IsRun h) runs → length (filter is_active_run runs) ≤ 0
none_active h n low [] next le here rise all = omega arith
none_active h n low (r ∷ runs) next le here rise all = passed (is_active_run r) refl (none_active h n r.number runs next (omega (arith, le, rise.0)) here rise.2 all.1)
  where
    passed : (b : Bool) → is_active_run r ≡ b → length (filter is_active_run runs) ≤ 0 → length (cond b (r ∷ filter is_active_run runs) (filter is_active_run runs)) ≤ 0
    passed true t rest = absurd (omega (arith, holds_one h n r.number here (active_holds h r all.0 t), le, rise.0))
    passed false t rest = rest

pub active_once : (h : Holder) (low : ℕ) (runs : List Run) (next : ℕ) → Rises low (numbers runs) next → AllByRecursion (IsRun h) runs → length (filter is_active_run runs) ≤ 1
active_once h low [] next rise all = omega arith
active_once h low (r ∷ runs) next rise all = passed (is_active_run r) refl (active_once h r.number runs next rise.2 all.1)
  where
    passed : (b : Bool) → is_active_run r ≡ b → length (filter is_active_run runs) ≤ 1 → length (cond b (r ∷ filter is_active_run runs) (filter is_active_run runs)) ≤ 1
    passed true t rest = omega (arith, none_active h r.number r.number runs next (omega arith) (active_holds h r all.0 t) rise.2 all.1)
    passed false t rest = rest

pub lawful_after : (act : Act) (now : ℕ) (s : Seen) (v : Workspace) → IsInRange act → IsMoment now → IsLawfulIfThere (standing s) → (rules act now s).left ≡ Some v → IsLawful v
lawful_after act now s v range moment lawful e = subst IsLawfulIfThere e (rules_are_lawful act now s range moment lawful)

pub one_run_is_active : OneRunIsActive
one_run_is_active act now s v range moment lawful e =
    let after : IsLawful v = lawful_after act now s v range moment lawful e in
    active_once v.holder 0 v.runs v.next_run after.runs.rise after.runs.each

pub plan_only_runs_stay_out : PlanOnlyRunsStayOut
plan_only_runs_stay_out act now s v n r range moment lawful e found kind = (waits (is_pending r.status) refl, held v.holder after.runs.held (holds v.holder n) refl)
  where
    after : IsLawful v
    after = lawful_after act now s v range moment lawful e

    is : IsRun v.holder r
    is = all_found (IsRun v.holder) n v.runs r after.runs.each found

    waits : (b : Bool) → is_pending r.status ≡ b → b ≡ false
    waits true t = absurd (let none : ⊥ = cc (sym kind ∙ (is.waiting t).0) in none)
    waits false t = refl

    held : (h : Holder) → IsHolder h v.runs → (b : Bool) → holds h n ≡ b → b ≡ false
    held Nobody own true t = absurd (let none : ⊥ = cc in none)
    held (Lock id text) own true t = absurd (let none : ⊥ = cc in none)
    held (HoldingRun m) own true t =
        let queued : IsSomeAnd (Some r) (λ x. x.plan_only ≡ false) =
        subst (λ (o : Option Run). IsSomeAnd o (λ x. x.plan_only ≡ false)) (ap (λ (k : ℕ). run_of k v.runs) (eqb-true m n t) ∙ found) own in
        absurd (let none : ⊥ = cc (sym kind ∙ queued) in none)
    held h own false t = refl

-- ---- what an act leaves: runs as they were, where none starts; or a workspace that settles

record Settling (w u : Workspace) : Type 0 where
  risen : Rises 0 (numbers u.runs) u.next_run
  quiet : (n : ℕ) → holds u.holder n ≡ true → holds w.holder n ≡ true
  stays : (n : ℕ) (r : Run) → run_of n w.runs ≡ Some r → (s : Run) × (run_of n u.runs ≡ Some s) × ((s ≡ r) ⊎ ((is_waiting s ≡ false) × StaysThere w.settings.runs.auto_apply r s))
  waited : (n : ℕ) (f : Run) → run_of n u.runs ≡ Some f → is_waiting f ≡ true → WaitedOrIsNew n w

abbrev Quietly : Workspace → Workspace → Type 0
Quietly w v = (v.runs ≡ w.runs) × ((n : ℕ) → Starts n w v → ⊥)

abbrev After : Workspace → Workspace → Type 0
After w v = Quietly w v ⊎ (u : Workspace) × Settling w u × (v ≡ settled u)

unchanged : (w v : Workspace) → w ≡ v → After w v
unchanged w v e = inl (ap (λ (x : Workspace). x.runs) (sym e), (λ n starts. let none : ⊥ = cc (sym starts.0 ∙ ap (λ (x : Workspace). holds x.holder n) e ∙ starts.1) in none))

same_runs : (w u : Workspace) → IsLawful w → u.runs ≡ w.runs → u.next_run ≡ w.next_run → ((n : ℕ) → holds u.holder n ≡ true → holds w.holder n ≡ true) → Settling w u
same_runs w u lawful runs next quiet = record {
  risen = subst (λ (k : ℕ). Rises 0 (numbers u.runs) k) (sym next) (subst (λ (rs : List Run). Rises 0 (numbers rs) w.next_run) (sym runs) lawful.runs.rise);
  quiet = quiet;
  stays = λ n r e. (r, ap (run_of n) runs ∙ e, inl refl);
  waited = λ n f e waits. inl (f, sym (ap (run_of n) runs) ∙ e, waits);
}

nobody_holds : (n : ℕ) (X : Type 0) → false ≡ true → X
nobody_holds n X e = absurd (let none : ⊥ = cc in none)

-- a run more
found_before : (n : ℕ) (runs : List Run) (x f : Run) → run_of n (runs ++ x ∷ []) ≡ Some f → (run_of n runs ≡ Some f) ⊎ (n ≡ x.number)
found_before n [] x f e = only (x.number == n) refl e
  where
    only : (b : Bool) → (x.number == n) ≡ b → cond b (Some x) None ≡ Some f → (run_of n [] ≡ Some f) ⊎ (n ≡ x.number)
    only true t e = inr (sym (eqb-true x.number n t))
    only false t e = absurd (let none : ⊥ = cc in none)
found_before n (r ∷ runs) x f e = chosen (r.number == n) e (λ rest. found_before n runs x f rest)
  where
    chosen : (b : Bool) → cond b (Some r) (run_of n (runs ++ x ∷ [])) ≡ Some f → (run_of n (runs ++ x ∷ []) ≡ Some f → (run_of n runs ≡ Some f) ⊎ (n ≡ x.number))
        → (cond b (Some r) (run_of n runs) ≡ Some f) ⊎ (n ≡ x.number)
    chosen true e more = inl e
    chosen false e more = more e

found_still : (n : ℕ) (runs : List Run) (x r : Run) → run_of n runs ≡ Some r → run_of n (runs ++ x ∷ []) ≡ Some r
found_still n [] x r e = absurd (let none : ⊥ = cc in none)
found_still n (y ∷ runs) x r e = chosen (y.number == n) e (λ rest. found_still n runs x r rest)
  where
    chosen : (b : Bool) → cond b (Some y) (run_of n runs) ≡ Some r → (run_of n runs ≡ Some r → run_of n (runs ++ x ∷ []) ≡ Some r) → cond b (Some y) (run_of n (runs ++ x ∷ [])) ≡ Some r
    chosen true e more = e
    chosen false e more = more e

made_settling : (w : Workspace) (ask : RunAsk) (now : ℕ) (u : Workspace) → IsLawful w → IsMade w ask now u → Settling w u
made_settling w ask now u lawful is = subst (Settling w) (sym is.2) (record {
  risen = Rises-more 0 w.runs x (omega (arith, left.1)) (subst (λ (k : ℕ). Rises 0 (numbers w.runs) k) (sym left.0) lawful.runs.rise);
  quiet = λ n h. h;
  stays = λ n r e. (r, found_still n w.runs x r e, inl refl);
  waited = λ n f e waits. waits_or_new n f waits (found_before n w.runs x f e);
})
  where
    x : Run
    x = new_run is.0 ask now

    left : (is.0 ≡ w.next_run) × (1 ≤ is.0) × (is.0 ≤ 1_000_000_000)
    left = number_left-is w.next_run is.0 is.1

    waits_or_new : (n : ℕ) (f : Run) → is_waiting f ≡ true → (run_of n w.runs ≡ Some f) ⊎ (n ≡ is.0) → WaitedOrIsNew n w
    waits_or_new n f waits (inl h) = inl (f, h, waits)
    waits_or_new n f waits (inr h) = inr (h ∙ left.0)

-- an action
idle_now : (r : Run) (status : RunStatus) → is_pending status ≡ false → (is_pending status && not r.plan_only) ≡ false
idle_now r status e = rw e refl

freed_holds : (b : Bool) (h : Holder) (n : ℕ) → holds (cond b Nobody h) n ≡ true → holds h n ≡ true
freed_holds true h n e = absurd (let none : ⊥ = cc in none)
freed_holds false h n e = e

reported_settling : (w : Workspace) (n : ℕ) (action : RunAction) (u : Workspace) → IsLawful w → IsReported w n action u → Settling w u
reported_settling w n action u lawful is = subst (Settling w) (sym is.is) (record {
  risen = subst (λ (ns : List ℕ). Rises 0 ns w.next_run) (sym (numbers-map f (λ x. refl) w.runs)) lawful.runs.rise;
  quiet = λ m h. freed_holds (frees n is.status w.holder) w.holder m h;
  stays = λ m r e. (f r, run_of-map f (λ x. refl) m w.runs ∙ ap (option_map f) e, by_number m r e (r.number == n) refl);
  waited = λ m g e waits. waits_before m g waits (run_of m w.runs) refl (sym (run_of-map f (λ x. refl) m w.runs) ∙ e);
})
  where
    f : Run → Run
    f = reported n action is.status

    idle : is_pending is.status ≡ false
    idle = never_pending is.run.plan_only w.settings.runs.auto_apply is.run.status action is.status is.leads

    by_number : (m : ℕ) (r : Run) → run_of m w.runs ≡ Some r → (b : Bool) → (r.number == n) ≡ b
        → ((record r { status = cond b is.status r.status; action = cond b (Some action) r.action }) ≡ r)
        ⊎ (((is_pending (cond b is.status r.status) && not r.plan_only) ≡ false) × StaysThere w.settings.runs.auto_apply r (record r { status = cond b is.status r.status; action = cond b (Some action) r.action }))
    by_number m r e true t =
        let here : run_of n w.runs ≡ Some r = ap (λ (k : ℕ). run_of k w.runs) (sym (eqb-true r.number n t) ∙ run_of-number m w.runs r e) ∙ e in
        let one : is.run ≡ r = same_Some is.run r (sym is.there ∙ here) in
        inr (
          idle_now r is.status idle,
          record {
            number = refl;
            plan_only = refl;
            key = refl;
            message = refl;
            created = refl;
            goes = inr (inr (action, subst (λ (x : Run). next_status x.plan_only w.settings.runs.auto_apply x.status action ≡ Some is.status) one is.leads, refl));
          },
        )
    by_number m r e false t = inl refl

    waits_before : (m : ℕ) (g : Run) → is_waiting g ≡ true → (o : Option Run) → run_of m w.runs ≡ o → option_map f o ≡ Some g → WaitedOrIsNew m w
    waits_before m g waits None e made = absurd (let none : ⊥ = cc in none)
    waits_before m g waits (Some r) e made = by_test (r.number == n) refl (same_Some (f r) g made)
      where
        by_test : (b : Bool) → (r.number == n) ≡ b → (record r { status = cond b is.status r.status; action = cond b (Some action) r.action }) ≡ g → WaitedOrIsNew m w
        by_test true t same_one = absurd (let none : ⊥ = cc (sym (idle_now r is.status idle) ∙ ap (λ (x : Run). is_waiting x) same_one ∙ waits) in none)
        by_test false t same_one = inl (r, e, ap (λ (x : Run). is_waiting x) same_one ∙ waits)

after_act : (act : Act) (now : ℕ) (w v : Workspace) → IsLawful w → (rules act now (there w)).left ≡ Some v → After w v
after_act act now w v lawful e = by_case (leaves act now w v e)
  where
    by_way : (u : Workspace) (answer : Outcome) → Way act now w u answer → Settling w u
    by_way u answer (version_comes x) = subst (Settling w) (sym x.is) (same_runs w (with_version w x.number x.head x.text now) lawful refl refl (λ n is. is))
    by_way u answer (versions_go x) = subst (Settling w) (sym x.is) (same_runs w (purged w) lawful refl refl (λ n is. is))
    by_way u answer (settings_come x) = subst (Settling w) (sym x.is) (same_runs w (with_settings w x.settings) lawful refl refl (λ n is. is))
    by_way u answer (lock_comes x) = subst (Settling w) (sym x.is) (same_runs w (locked x.id x.text w) lawful refl refl (λ n is. nobody_holds n (holds w.holder n ≡ true) is))
    by_way u answer (lock_goes x) = subst (Settling w) (sym x.is) (same_runs w (released x.id w) lawful refl refl (λ n is. nobody_holds n (holds w.holder n ≡ true) is))
    by_way u answer (run_comes x) = made_settling w x.ask now u lawful x.made
    by_way u answer (run_goes_on x) = reported_settling w x.n x.action u lawful x.reported

    by_case : (w ≡ v) ⊎ Leaves act now w v → After w v
    by_case (inl still) = unchanged w v still
    by_case (inr l) = inr (l.to, by_way l.to l.answer l.way, sym l.settles)

-- ---- who starts

starts_first : (h : Holder) (o : Option ℕ) (n : ℕ) → to_start h o ≡ Some n → o ≡ Some n
starts_first Nobody o n e = e
starts_first (Lock id text) o n e = absurd (let none : ⊥ = cc in none)
starts_first (HoldingRun m) o n e = absurd (let none : ⊥ = cc in none)

-- the one that is to start waits
to_start_waits : (u : Workspace) (n : ℕ) → Rises 0 (numbers u.runs) u.next_run → first_waiting u.runs ≡ Some n → (f : Run) × (run_of n u.runs ≡ Some f) × (is_waiting f ≡ true)
to_start_waits u n rise e = by_found (find is_waiting u.runs) refl e
  where
    by_found : (o : Option Run) → find is_waiting u.runs ≡ o → option_map (λ (r : Run). r.number) o ≡ Some n → (f : Run) × (run_of n u.runs ≡ Some f) × (is_waiting f ≡ true)
    by_found None found e = absurd (let none : ⊥ = cc in none)
    by_found (Some f) found e =
        let at : f.number ≡ n = cc in
        (f, ap (λ (k : ℕ). run_of k u.runs) (sym at) ∙ (found_numbered is_waiting 0 u.runs u.next_run f found rise).1, found_passes is_waiting u.runs f found)

-- what settling does to a run
begun_or_not : (u : Workspace) (s : Run) (n : ℕ) (start : Option ℕ) → Rises 0 (numbers u.runs) u.next_run → to_start u.holder (first_waiting u.runs) ≡ start → run_of n u.runs ≡ Some s
    → (status_begun start s.number s.status ≡ s.status) ⊎ ((is_waiting s ≡ true) × (status_begun start s.number s.status ≡ Planning))
begun_or_not u s n None rise is found = inl refl
begun_or_not u s n (Some m) rise is found = chosen (s.number == m) refl
  where
    waits : m ≡ n → is_waiting s ≡ true
    waits at =
        let f : (f : Run) × (run_of m u.runs ≡ Some f) × (is_waiting f ≡ true) = to_start_waits u m rise (starts_first u.holder (first_waiting u.runs) m is) in
        ap (λ (x : Run). is_waiting x) (same_Some s f.0 (sym found ∙ ap (λ (k : ℕ). run_of k u.runs) (sym at) ∙ f.1)) ∙ f.2

    chosen : (b : Bool) → (s.number == m) ≡ b → (cond b Planning s.status ≡ s.status) ⊎ ((is_waiting s ≡ true) × (cond b Planning s.status ≡ Planning))
    chosen true t = inr (waits (sym (eqb-true s.number m t) ∙ run_of-number n u.runs s found), refl)
    chosen false t = inl refl

all_begun_above : (n : ℕ) (runs : List Run) → AllByRecursion (λ (r : Run). is_waiting r ≡ true → n ≤ r.number) runs → AllByRecursion (λ (r : Run). is_waiting r ≡ true → n < r.number) (map (begun n) runs)
all_begun_above n [] all = tt
all_begun_above n (r ∷ runs) all = (one (r.number == n) refl, all_begun_above n runs all.1)
  where
    one : (b : Bool) → (r.number == n) ≡ b → (is_pending (cond b Planning r.status) && not r.plan_only) ≡ true → n < r.number
    one true t waits = absurd (let none : ⊥ = cc in none)
    one false t waits = omega (arith, all.0 waits, λ (at : r.number ≡ n). eqb-false r.number n t at)

pub runs_start_in_order : RunsStartInOrder
runs_start_in_order act now w v n range moment lawful e starts = by_after (after_act act now w v lawful e)
  where
    by_start : (u : Workspace) → Settling w u → (h : Holder) → u.holder ≡ h → (o : Option ℕ) → first_waiting u.runs ≡ o → holds (started_if (to_start h o) u).holder n ≡ true
        → WaitedOrIsNew n w × AllByRecursion (λ (r : Run). is_waiting r ≡ true → n < r.number) (started_if (to_start h o) u).runs
    by_start u is Nobody at None waiting here = absurd (let none : ⊥ = cc (sym starts.0 ∙ is.quiet n here) in none)
    by_start u is Nobody at (Some m) waiting here =
        let same_one : m ≡ n = eqb-true m n here in
        let first : first_waiting u.runs ≡ Some n = waiting ∙ ap Some same_one in
        let f : (f : Run) × (run_of n u.runs ≡ Some f) × (is_waiting f ≡ true) = to_start_waits u n is.risen first in (
          is.waited n f.0 f.1 f.2,
          subst (λ (k : ℕ). AllByRecursion (λ (r : Run). is_waiting r ≡ true → n < r.number) (map (begun k) u.runs)) (sym same_one) (all_begun_above n u.runs (least_starts 0 u.runs u.next_run n first is.risen)),
        )
    by_start u is (Lock id text) at o waiting here = absurd (let none : ⊥ = cc (sym starts.0 ∙ is.quiet n here) in none)
    by_start u is (HoldingRun m) at o waiting here = absurd (let none : ⊥ = cc (sym starts.0 ∙ is.quiet n here) in none)

    by_after : After w v → WaitedOrIsNew n w × AllByRecursion (λ (r : Run). is_waiting r ≡ true → n < r.number) v.runs
    by_after (inl quietly) = absurd (quietly.1 n starts)
    by_after (inr h) =
        subst (λ (x : Workspace). WaitedOrIsNew n w × AllByRecursion (λ (r : Run). is_waiting r ≡ true → n < r.number) x.runs) (sym h.2)
        (by_start h.0 h.1 h.0.holder refl (first_waiting h.0.runs) refl (ap (λ (x : Workspace). holds x.holder n) (sym h.2) ∙ starts.1))

-- a run that waits after an act waited before it, or the act made it
pub waited_before : (act : Act) (now : ℕ) (w v : Workspace) (n : ℕ) (r : Run) → IsLawful w → (rules act now (there w)).left ≡ Some v → run_of n v.runs ≡ Some r → is_waiting r ≡ true → WaitedOrIsNew n w
waited_before act now w v n r lawful e found waits = by_after (after_act act now w v lawful e)
  where
    unbegun : (start : Option ℕ) (s : Run) → begun_by start s ≡ r → is_waiting s ≡ true
    unbegun None s one = ap (λ (x : Run). is_waiting x) one ∙ waits
    unbegun (Some m) s one = by_test (s.number == m) one
      where
        by_test : (b : Bool) → (record s { status = cond b Planning s.status }) ≡ r → is_waiting s ≡ true
        by_test true one = absurd (let none : ⊥ = cc (ap (λ (x : Run). is_waiting x) one ∙ waits) in none)
        by_test false one = ap (λ (x : Run). is_waiting x) one ∙ waits

    by_run : (u : Workspace) → Settling w u → (start : Option ℕ) → (o : Option Run) → run_of n u.runs ≡ o → option_map (begun_by start) o ≡ Some r → WaitedOrIsNew n w
    by_run u is start None at e = absurd (let none : ⊥ = cc in none)
    by_run u is start (Some s) at e = is.waited n s at (unbegun start s (same_Some (begun_by start s) r e))

    by_after : After w v → WaitedOrIsNew n w
    by_after (inl quietly) = inl (r, ap (run_of n) (sym quietly.0) ∙ found, waits)
    by_after (inr h) =
        let start : Option ℕ = to_start h.0.holder (first_waiting h.0.runs) in
        by_run h.0 h.1 start (run_of n h.0.runs) refl (sym (run_of-started start n h.0) ∙ ap (λ (x : Workspace). run_of n x.runs) (sym h.2) ∙ found)

-- ---- what becomes of a run

pub runs_stay : RunsStay
runs_stay act now w v n r lawful e found = by_after (after_act act now w v lawful e)
  where
    settled_run : (u : Workspace) → Settling w u → (s : Run) × (run_of n u.runs ≡ Some s) × ((s ≡ r) ⊎ ((is_waiting s ≡ false) × StaysThere w.settings.runs.auto_apply r s))
        → (s : Run) × (run_of n (settled u).runs ≡ Some s) × StaysThere w.settings.runs.auto_apply r s
    settled_run u is (s, at, kind) = (begun_by start s, run_of-started start n u ∙ ap (option_map (begun_by start)) at, goes_on kind (begun_or_not u s n start is.risen refl at))
      where
        start : Option ℕ
        start = to_start u.holder (first_waiting u.runs)

        as_it_is : StaysThere w.settings.runs.auto_apply r s → status_begun start s.number s.status ≡ s.status → StaysThere w.settings.runs.auto_apply r (begun_by start s)
        as_it_is is_there same_one = record {
          number = is_there.number;
          plan_only = is_there.plan_only;
          key = is_there.key;
          message = is_there.message;
          created = is_there.created;
          goes = subst (λ (x : RunStatus). GoesOn w.settings.runs.auto_apply r (record s { status = x })) (sym same_one) is_there.goes;
        }

        itself : s ≡ r → StaysThere w.settings.runs.auto_apply r s
        itself one = subst (StaysThere w.settings.runs.auto_apply r) (sym one) (record { number = refl; plan_only = refl; key = refl; message = refl; created = refl; goes = inl (refl, refl) })

        goes_on : (s ≡ r) ⊎ ((is_waiting s ≡ false) × StaysThere w.settings.runs.auto_apply r s) → (status_begun start s.number s.status ≡ s.status) ⊎ ((is_waiting s ≡ true) × (status_begun start s.number s.status ≡ Planning))
            → StaysThere w.settings.runs.auto_apply r (begun_by start s)
        goes_on (inl one) (inl same_one) = as_it_is (itself one) same_one
        goes_on (inr acted) (inl same_one) = as_it_is acted.1 same_one
        goes_on (inr acted) (inr begins) = absurd (let none : ⊥ = cc (sym acted.0 ∙ begins.0) in none)
        goes_on (inl one) (inr begins) = record {
          number = ap (λ (x : Run). x.number) one;
          plan_only = ap (λ (x : Run). x.plan_only) one;
          key = ap (λ (x : Run). x.key) one;
          message = ap (λ (x : Run). x.message) one;
          created = ap (λ (x : Run). x.created) one;
          goes = inr (inl (ap (λ (x : Run). is_waiting x) (sym one) ∙ begins.0, begins.1, ap (λ (x : Run). x.action) one));
        }

    by_after : After w v → (s : Run) × (run_of n v.runs ≡ Some s) × StaysThere w.settings.runs.auto_apply r s
    by_after (inl quietly) = (r, ap (run_of n) quietly.0 ∙ found, record { number = refl; plan_only = refl; key = refl; message = refl; created = refl; goes = inl (refl, refl) })
    by_after (inr h) = subst (λ (x : Workspace). (s : Run) × (run_of n x.runs ≡ Some s) × StaysThere w.settings.runs.auto_apply r s) (sym h.2) (settled_run h.0 h.1 (h.1.stays n r found))

-- ---- what comes again

-- an action that a run has behind it
abbrev went_on : RunAction → RunStatus → Bool
went_on ReportPlanned Planned = true
went_on ReportPlanned Applying = true
went_on Confirm Applying = true
went_on _ _ = false

abbrev is_past : RunAction → RunStatus → Bool
is_past action status = not (is_open status) || went_on action status

-- what has ended has every action behind it
ended_is_past : (action : RunAction) (status : RunStatus) → is_open status ≡ false → is_past action status ≡ true
ended_is_past action status e = ap (λ (b : Bool). not b || went_on action status) e

-- a step leads behind its action
abbrev LeadsPast : RunStatus → RunAction → RunStatus → Type 0
LeadsPast from action to = is_past action to ≡ true

ends_past : (steps : List RunStep) (action : RunAction) (status : RunStatus) → AllByRecursion (λ (s : RunStep). LeadsPast s.from s.action s.to) steps → ends_in steps action status ≡ true → is_past action status ≡ true
ends_past [] action status all e = absurd (let none : ⊥ = cc in none)
ends_past (s ∷ steps) action status all e = passed (is_action s.action action) refl (is_status s.to status) refl e (λ rest. ends_past steps action status all.1 rest)
  where
    passed : (b : Bool) → is_action s.action action ≡ b → (c : Bool) → is_status s.to status ≡ c → ((b && c) || ends_in steps action status) ≡ true
        → (ends_in steps action status ≡ true → is_past action status ≡ true) → is_past action status ≡ true
    passed true t true u e more = subst (λ (x : RunStatus). is_past action x ≡ true) (one_status s.to status u) (subst (λ (x : RunAction). is_past x s.to ≡ true) (one_action s.action action t) all.0)
    passed true t false u e more = more e
    passed false t c u e more = more e

all_lead_past : (plan_only : Bool) (action : RunAction) (status : RunStatus) → IsWhereActionEnds plan_only (Some action) status → is_past action status ≡ true
all_lead_past true action status ends = ends_past plan_only_steps action status (refl, (refl, (refl, (refl, tt)))) ends
all_lead_past false action status ends = either (ends_in auto_apply_steps action status) refl (ends_in confirmed_steps action status) refl ends
  where
    either : (b : Bool) → ends_in auto_apply_steps action status ≡ b → (c : Bool) → ends_in confirmed_steps action status ≡ c → (b || c) ≡ true → is_past action status ≡ true
    either true t c u e = ends_past auto_apply_steps action status (refl, (refl, (refl, (refl, (refl, (refl, (refl, (refl, (refl, (refl, tt)))))))))) t
    either false t true u e = ends_past confirmed_steps action status (refl, (refl, (refl, (refl, (refl, (refl, (refl, (refl, (refl, (refl, tt)))))))))) u
    either false t false u e = absurd (let none : ⊥ = cc in none)

-- what a run has behind it stays behind it
abbrev KeepsPast : RunStatus → RunAction → RunStatus → Type 0
KeepsPast from action to = (a : RunAction) → is_past a from ≡ true → is_past a to ≡ true

applying_past : (a : RunAction) → is_past a Planned ≡ true → is_past a Applying ≡ true
applying_past ReportPlanned e = refl
applying_past ReportUnchanged e = absurd (let none : ⊥ = cc in none)
applying_past Fail e = absurd (let none : ⊥ = cc in none)
applying_past Confirm e = refl
applying_past ReportApplied e = absurd (let none : ⊥ = cc in none)
applying_past Discard e = absurd (let none : ⊥ = cc in none)
applying_past Cancel e = absurd (let none : ⊥ = cc in none)

planning_past : (a : RunAction) (X : Type 0) → is_past a Planning ≡ true → X
planning_past ReportPlanned X e = absurd (let none : ⊥ = cc in none)
planning_past ReportUnchanged X e = absurd (let none : ⊥ = cc in none)
planning_past Fail X e = absurd (let none : ⊥ = cc in none)
planning_past Confirm X e = absurd (let none : ⊥ = cc in none)
planning_past ReportApplied X e = absurd (let none : ⊥ = cc in none)
planning_past Discard X e = absurd (let none : ⊥ = cc in none)
planning_past Cancel X e = absurd (let none : ⊥ = cc in none)

pending_past : (a : RunAction) (X : Type 0) → is_past a Pending ≡ true → X
pending_past ReportPlanned X e = absurd (let none : ⊥ = cc in none)
pending_past ReportUnchanged X e = absurd (let none : ⊥ = cc in none)
pending_past Fail X e = absurd (let none : ⊥ = cc in none)
pending_past Confirm X e = absurd (let none : ⊥ = cc in none)
pending_past ReportApplied X e = absurd (let none : ⊥ = cc in none)
pending_past Discard X e = absurd (let none : ⊥ = cc in none)
pending_past Cancel X e = absurd (let none : ⊥ = cc in none)

still_past : (plan_only auto_apply : Bool) (from : RunStatus) (action : RunAction) (to : RunStatus) → next_status plan_only auto_apply from action ≡ Some to → KeepsPast from action to
still_past true auto_apply from action to e =
    led KeepsPast plan_only_steps from action to
    ((λ a _. ended_is_past a PlannedAndFinished refl), ((λ a _. ended_is_past a PlannedAndFinished refl), ((λ a _. ended_is_past a Errored refl), ((λ a _. ended_is_past a Canceled refl), tt)))) e
still_past false true from action to e =
    led KeepsPast auto_apply_steps from action to (
      (λ a _. ended_is_past a Discarded refl),
      (
        (λ a h. planning_past a _ h),
        (
          (λ a _. ended_is_past a PlannedAndFinished refl),
          (
            (λ a _. ended_is_past a Errored refl),
            (
              (λ a _. ended_is_past a Canceled refl),
              ((λ a h. applying_past a h), ((λ a _. ended_is_past a Discarded refl), ((λ a _. ended_is_past a Applied refl), ((λ a _. ended_is_past a Errored refl), ((λ a _. ended_is_past a Canceled refl), tt))))),
            ),
          ),
        ),
      ),
    ) e
still_past false false from action to e =
    led KeepsPast confirmed_steps from action to (
      (λ a _. ended_is_past a Discarded refl),
      (
        (λ a h. planning_past a _ h),
        (
          (λ a _. ended_is_past a PlannedAndFinished refl),
          (
            (λ a _. ended_is_past a Errored refl),
            (
              (λ a _. ended_is_past a Canceled refl),
              ((λ a h. applying_past a h), ((λ a _. ended_is_past a Discarded refl), ((λ a _. ended_is_past a Applied refl), ((λ a _. ended_is_past a Errored refl), ((λ a _. ended_is_past a Canceled refl), tt))))),
            ),
          ),
        ),
      ),
    ) e

-- and isn't taken once more
abbrev NotPast : RunStatus → RunAction → RunStatus → Type 0
NotPast from action to = is_past action from ≡ false

not_past : (plan_only auto_apply : Bool) (from : RunStatus) (action : RunAction) (to : RunStatus) → next_status plan_only auto_apply from action ≡ Some to → is_past action from ≡ false
not_past true auto_apply from action to e = led NotPast plan_only_steps from action to (refl, (refl, (refl, (refl, tt)))) e
not_past false true from action to e = led NotPast auto_apply_steps from action to (refl, (refl, (refl, (refl, (refl, (refl, (refl, (refl, (refl, (refl, tt)))))))))) e
not_past false false from action to e = led NotPast confirmed_steps from action to (refl, (refl, (refl, (refl, (refl, (refl, (refl, (refl, (refl, (refl, tt)))))))))) e

waiting_pending : (s : RunStatus) (kind : Bool) (X : Type 0) (a : RunAction) → (is_pending s && not kind) ≡ true → is_past a s ≡ true → X
waiting_pending Pending kind X a waits past = pending_past a X past
waiting_pending Planning kind X a waits past = absurd (let none : ⊥ = cc in none)
waiting_pending Planned kind X a waits past = absurd (let none : ⊥ = cc in none)
waiting_pending Applying kind X a waits past = absurd (let none : ⊥ = cc in none)
waiting_pending Applied kind X a waits past = absurd (let none : ⊥ = cc in none)
waiting_pending PlannedAndFinished kind X a waits past = absurd (let none : ⊥ = cc in none)
waiting_pending Errored kind X a waits past = absurd (let none : ⊥ = cc in none)
waiting_pending Discarded kind X a waits past = absurd (let none : ⊥ = cc in none)
waiting_pending Canceled kind X a waits past = absurd (let none : ⊥ = cc in none)

past_stays : (auto_apply : Bool) (r s : Run) (action : RunAction) → StaysThere auto_apply r s → is_past action r.status ≡ true → is_past action s.status ≡ true
past_stays auto_apply r s action is past = by_way is.goes
  where
    by_way : GoesOn auto_apply r s → is_past action s.status ≡ true
    by_way (inl as_before) = ap (is_past action) as_before.0 ∙ past
    by_way (inr (inl begins)) = waiting_pending r.status r.plan_only (is_past action s.status ≡ true) action begins.0 past
    by_way (inr (inr (a, leads, last))) = still_past r.plan_only auto_apply r.status a s.status leads action past

abbrev HasBehind : ℕ → RunAction → Workspace → Type 0
HasBehind n action w = (s : Run) × (run_of n w.runs ≡ Some s) × (is_past action s.status ≡ true)

-- an accepted action is the last of its run
accepted_last : (n : ℕ) (action : RunAction) (now : ℕ) (w v : Workspace) → (IsRefusal (rules (ReportRun n action) now (there w)).answer → ⊥) → (rules (ReportRun n action) now (there w)).left ≡ Some v
    → (s : Run) × (run_of n v.runs ≡ Some s) × (s.action ≡ Some action)
accepted_last n action now w v accepted e = by_run (run_of n w.runs) refl accepted e
  where
    last_is : (o : Option RunAction) → is_last action o ≡ true → o ≡ Some action
    last_is None e = absurd (let none : ⊥ = cc in none)
    last_is (Some last) e = ap Some (one_action last action e)

    by_status : (r : Run) → run_of n w.runs ≡ Some r → (m : Option RunStatus) → (IsRefusal (by_step m n action w).answer → ⊥) → (by_step m n action w).left ≡ Some v
        → (s : Run) × (run_of n v.runs ≡ Some s) × (s.action ≡ Some action)
    by_status r found None accepted e = absurd (accepted tt)
    by_status r found (Some status) accepted e =
        let u : Workspace = with_report n action status w in
        let start : Option ℕ = to_start u.holder (first_waiting u.runs) in
        let f : Run → Run = reported n action status in (
          begun_by start (f r),
          ap (λ (x : Workspace). run_of n x.runs) (sym (same_Some (settled u) v e)) ∙ run_of-started start n u
              ∙ ap (option_map (begun_by start)) (run_of-map f (λ x. refl) n w.runs ∙ ap (option_map f) found),
          ap (λ (b : Bool). cond b (Some action) r.action) (eq-eqb r.number n (run_of-number n w.runs r found)),
        )

    by_last : (r : Run) → run_of n w.runs ≡ Some r → (b : Bool) → is_last action r.action ≡ b
        → (IsRefusal (cond b (run_shown_already r w) (by_step (next_status r.plan_only w.settings.runs.auto_apply r.status action) n action w)).answer → ⊥)
        → (cond b (run_shown_already r w) (by_step (next_status r.plan_only w.settings.runs.auto_apply r.status action) n action w)).left ≡ Some v
        → (s : Run) × (run_of n v.runs ≡ Some s) × (s.action ≡ Some action)
    by_last r found true t accepted e = (r, ap (λ (x : Workspace). run_of n x.runs) (sym (same_Some w v e)) ∙ found, last_is r.action t)
    by_last r found false t accepted e = by_status r found (next_status r.plan_only w.settings.runs.auto_apply r.status action) accepted e

    by_run : (o : Option Run) → run_of n w.runs ≡ o → (IsRefusal (report o n action w).answer → ⊥) → (report o n action w).left ≡ Some v
        → (s : Run) × (run_of n v.runs ≡ Some s) × (s.action ≡ Some action)
    by_run None found accepted e = absurd (accepted tt)
    by_run (Some r) found accepted e = by_last r found (is_last action r.action) refl accepted e

behind_later : (n : ℕ) (action : RunAction) (acts : List (Act × ℕ)) (v u : Workspace) → AreInRange acts → Leads acts v u → IsLawful v → HasBehind n action v → HasBehind n action u
behind_later n action [] v u range leads lawful behind = subst (HasBehind n action) (sym leads) behind
behind_later n action (a ∷ acts) v u range leads lawful behind =
    let next : Workspace = leads.0 in
    let after : IsLawful next = lawful_after a.0 a.1 (there v) next range.0.0 range.0.1 lawful leads.1 in
    let there_is : (s : Run) × (run_of n next.runs ≡ Some s) × StaysThere v.settings.runs.auto_apply behind.0 s = runs_stay a.0 a.1 v next n behind.0 lawful leads.1 behind.1 in
    behind_later n action acts next u range.1 leads.2 after (there_is.0, there_is.1, past_stays v.settings.runs.auto_apply behind.0 there_is.0 action there_is.2 behind.2)

pub actions_come_again : ActionsComeAgain
actions_come_again n action now later acts w v u lawful moment accepted e range leads =
    let after : IsLawful v = lawful_after (ReportRun n action) now (there w) v tt moment lawful e in
    let last : (s : Run) × (run_of n v.runs ≡ Some s) × (s.action ≡ Some action) = accepted_last n action now w v accepted e in
    let ends : IsWhereActionEnds last.0.plan_only last.0.action last.0.status = (all_found (IsRun v.holder) n v.runs last.0 after.runs.each last.1).action in
    let past : is_past action last.0.status ≡ true =
    all_lead_past last.0.plan_only action last.0.status (subst (λ (o : Option RunAction). IsWhereActionEnds last.0.plan_only o last.0.status) last.2 ends) in
    let behind : HasBehind n action u = behind_later n action acts v u range leads after (last.0, last.1, past) in
    subst (λ (o : Option Run). (report o n action u).left ≡ Some u) (sym behind.1) (refuses behind.0 behind.2 (is_last action behind.0.action))
  where
    none_left : (s : Run) → is_past action s.status ≡ true → (m : Option RunStatus) → next_status s.plan_only u.settings.runs.auto_apply s.status action ≡ m → (by_step m n action u).left ≡ Some u
    none_left s past None leads = refl
    none_left s past (Some status) leads = absurd (let none : ⊥ = cc (sym past ∙ not_past s.plan_only u.settings.runs.auto_apply s.status action status leads) in none)

    refuses : (s : Run) → is_past action s.status ≡ true → (b : Bool) → (cond b (run_shown_already s u) (by_step (next_status s.plan_only u.settings.runs.auto_apply s.status action) n action u)).left ≡ Some u
    refuses s past true = refl
    refuses s past false = none_left s past (next_status s.plan_only u.settings.runs.auto_apply s.status action) refl

-- ---- a creation with a key

found_keyed : (key : List ℕ) (n : ℕ) (runs : List Run) (s : Run) → run_of n runs ≡ Some s → s.key ≡ Some key → is_some (keyed_run (Some key) runs) ≡ true
found_keyed key n [] s e k = absurd (let none : ⊥ = cc in none)
found_keyed key n (x ∷ runs) s e k = chosen (has_key key x.key) refl (x.number == n) e (λ rest. found_keyed key n runs s rest k)
  where
    own : (y : Run) → y.key ≡ Some key → has_key key y.key ≡ true
    own y k = ap (has_key key) k ∙ (bytes_eq-Decides key key).1 refl

    chosen : (b : Bool) → has_key key x.key ≡ b → (c : Bool) → cond c (Some x) (run_of n runs) ≡ Some s → (run_of n runs ≡ Some s → is_some (keyed_run (Some key) runs) ≡ true)
        → is_some (cond b (Some x) (keyed_run (Some key) runs)) ≡ true
    chosen true t c e more = refl
    chosen false t true e more = absurd (let none : ⊥ = cc (sym t ∙ own x (ap (λ (y : Run). y.key) (same_Some x s e) ∙ k)) in none)
    chosen false t false e more = more e

abbrev HasKey : List ℕ → Workspace → Type 0
HasKey key w = is_some (keyed_run (Some key) w.runs) ≡ true

key_is : (key : List ℕ) (o : Option (List ℕ)) → has_key key o ≡ true → o ≡ Some key
key_is key None e = absurd (let none : ⊥ = cc in none)
key_is key (Some own) e = ap Some ((bytes_eq-Decides own key).0 e)

key_stays : (key : List ℕ) (act : Act) (now : ℕ) (w v : Workspace) → IsLawful w → (rules act now (there w)).left ≡ Some v → HasKey key w → HasKey key v
key_stays key act now w v lawful e has = by_found (keyed_run (Some key) w.runs) refl has
  where
    passes : (runs : List Run) (r : Run) → find (is_keyed key) runs ≡ Some r → is_keyed key r ≡ true
    passes [] r e = absurd (let none : ⊥ = cc in none)
    passes (x ∷ runs) r e = chosen (is_keyed key x) refl e (λ rest. passes runs r rest)
      where
        chosen : (b : Bool) → is_keyed key x ≡ b → cond b (Some x) (find (is_keyed key) runs) ≡ Some r → (find (is_keyed key) runs ≡ Some r → is_keyed key r ≡ true) → is_keyed key r ≡ true
        chosen true t is more = ap (is_keyed key) (sym (same_Some x r is)) ∙ t
        chosen false t is more = more is

    by_found : (o : Option Run) → keyed_run (Some key) w.runs ≡ o → is_some o ≡ true → HasKey key v
    by_found None found has = absurd (let none : ⊥ = cc in none)
    by_found (Some r) found has =
        let at : run_of r.number w.runs ≡ Some r = (found_numbered (is_keyed key) 0 w.runs w.next_run r found lawful.runs.rise).1 in
        let s : (s : Run) × (run_of r.number v.runs ≡ Some s) × StaysThere w.settings.runs.auto_apply r s = runs_stay act now w v r.number r lawful e at in
        found_keyed key r.number v.runs s.0 s.1 (s.2.key ∙ key_is key r.key (passes w.runs r found))

key_later : (key : List ℕ) (acts : List (Act × ℕ)) (v u : Workspace) → AreInRange acts → Leads acts v u → IsLawful v → HasKey key v → HasKey key u
key_later key [] v u range leads lawful has = subst (HasKey key) (sym leads) has
key_later key (a ∷ acts) v u range leads lawful has =
    key_later key acts leads.0 u range.1 leads.2 (lawful_after a.0 a.1 (there v) leads.0 range.0.0 range.0.1 lawful leads.1) (key_stays key a.0 a.1 v leads.0 lawful leads.1 has)

-- what was accepted has its key
accepted_keyed : (ask : RunAsk) (key : List ℕ) (now : ℕ) (w v : Workspace) → ask.key ≡ Some key → (IsRefusal (rules (MakeRun ask) now (there w)).answer → ⊥) → (rules (MakeRun ask) now (there w)).left ≡ Some v → HasKey key v
accepted_keyed ask key now w v k accepted e = by_key (keyed_run ask.key w.runs) refl accepted e
  where
    numbered : (m : Option ℕ) → (IsRefusal (numbered_run m w ask now).answer → ⊥) → (numbered_run m w ask now).left ≡ Some v → HasKey key v
    numbered None accepted e = absurd (accepted tt)
    numbered (Some n) accepted e = subst (HasKey key) (same_Some (settled (with_run (new_run n ask now) w)) v e) (key_is_there key w (new_run n ask now) k)

    chosen : (b : Bool) → (IsRefusal (cond b (numbered_run (number_left w.next_run) w ask now) (effect (refused OverLimit) (Some w))).answer → ⊥)
        → (cond b (numbered_run (number_left w.next_run) w ask now) (effect (refused OverLimit) (Some w))).left ≡ Some v → HasKey key v
    chosen true accepted e = numbered (number_left w.next_run) accepted e
    chosen false accepted e = absurd (accepted tt)

    by_key : (o : Option Run) → keyed_run ask.key w.runs ≡ o → (IsRefusal (make_run o w ask now).answer → ⊥) → (make_run o w ask now).left ≡ Some v → HasKey key v
    by_key (Some r) found accepted e =
        subst (HasKey key) (same_Some w v e) (subst (λ (x : Option (List ℕ)). is_some (keyed_run x w.runs) ≡ true) k (ap (λ (o : Option Run). is_some o) found))
    by_key None found accepted e = chosen (nat_lt (open_runs w.runs) max_open_runs) accepted e

pub keyed_creations_come_again : KeyedCreationsComeAgain
keyed_creations_come_again ask again key now later acts w v u k l in_range lawful moment accepted e range leads =
    let after : IsLawful v = lawful_after (MakeRun ask) now (there w) v in_range moment lawful e in
    let has : HasKey key u = key_later key acts v u range leads after (accepted_keyed ask key now w v k accepted e) in
    subst (λ (x : Option (List ℕ)). (make_run (keyed_run x u.runs) u again later).left ≡ Some u) (sym l) (same_run (keyed_run (Some key) u.runs) has)
  where
    same_run : (o : Option Run) → is_some o ≡ true → (make_run o u again later).left ≡ Some u
    same_run None has = absurd (let none : ⊥ = cc in none)
    same_run (Some r) has = refl

-- ---- 100 open runs are let in, and no more

-- a creation without a run that has its key, by whether there is room
made_by_room : (ask : RunAsk) (now : ℕ) (w : Workspace) (b : Bool) → keyed_run ask.key w.runs ≡ None → nat_lt (open_runs w.runs) 100 ≡ b
    → rules (MakeRun ask) now (there w) ≡ cond b (numbered_run (number_left w.next_run) w ask now) (effect (refused OverLimit) (Some w))
made_by_room ask now w b unkeyed room =
    ap (λ (o : Option Run). make_run o w ask now) unkeyed
    ∙ ap (λ (c : Bool). cond c (numbered_run (number_left w.next_run) w ask now) (effect (refused OverLimit) (Some w))) room

pub hundred_runs_are_let_in : HundredRunsAreLetIn
hundred_runs_are_let_in ask now w unkeyed room low high = record {
  run = begun_by start found.0;
  after = settled u;
  left = ap (λ (r : Ruling). r.left) is;
  stands = there_is;
  reported = ap (λ (r : Ruling). r.answer) is ∙ ap run_answer there_is;
}
  where
    u : Workspace
    u = with_run (new_run w.next_run ask now) w

    start : Option ℕ
    start = to_start u.holder (first_waiting u.runs)

    found : (x : Run) × (run_of w.next_run u.runs ≡ Some x)
    found = some_run-push w.next_run w.runs (new_run w.next_run ask now) refl

    there_is : run_of w.next_run (settled u).runs ≡ Some (begun_by start found.0)
    there_is = run_of-started start w.next_run u ∙ ap (option_map (begun_by start)) found.1

    is : rules (MakeRun ask) now (there w) ≡ run_shown_with w.next_run u
    is =
        made_by_room ask now w true unkeyed (lt-ltb (open_runs w.runs) 100 room)
        ∙ ap (λ (m : Option ℕ). numbered_run m w ask now) (in_range_is_left w.next_run low high)

pub no_more_runs_are_let_in : NoMoreRunsAreLetIn
no_more_runs_are_let_in ask now w unkeyed full = ap (λ (r : Ruling). r.answer) (made_by_room ask now w false unkeyed (le-ltb (open_runs w.runs) 100 full))
