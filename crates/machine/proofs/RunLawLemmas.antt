-- The rules on runs keep the laws of a workspace.
use Rattle.std.proofs.Common.{◌≡◌, ℕ, ◌+◌, ◌<◌, ◌≤◌, ◌==◌, Bool, true, false, not, ◌&&◌, cond, List, [], ◌∷◌, ◌++◌, codes, map, Option, Some, None, option_map, IsSomeAnd, refl, sym, ap, subst, ◌∙◌, arith, eqb-true, ne_eqb}
use Rattle.machine.proofs.Outside.{eqb-false, AllByRecursion, is_open, RunAsk, RunStatus, RunAction, Holder}
use Rattle.std.proofs.SliceLists.{all_by_recursion_push}
use Rattle.machine.specs.Laws.{Rises, is_active, is_nobody, holds, IsWhereActionEnds, IsRun, IsHolder, AreRuns, IsLawful}
use Rattle.machine.specs.Ranges.{IsRunAsk, IsMoment}
use Rattle.machine.specs.RunSteps.{next_status}
use Rattle.machine.specs.Workspaces.{max_open_runs, run_of, keyed_run, open_runs}
use Rattle.machine.specs.Settling.{settled}
use Rattle.machine.specs.Rules.{new_run, with_run, number_left, reported, frees, with_report}
use Rattle.machine.proofs.StepLemmas.{leads_where_it_ends, never_pending, from_open, stays_idle, open_is_active, ended_is_idle}
use Rattle.machine.proofs.RunLemmas.{run_of-number, run_of-map, none_numbered, only_one_numbered, some_numbered-push, keys_differ-map, keys_differ-push, open_runs-push, open_runs-map, all-both, all-map, all_found, numbers-map, Rises-more}
use Rattle.machine.proofs.SettlingLemmas.{freed_is_lawful}
use Rattle.machine.proofs.LawLemmas.{number_left-is, still_is_lawful, under_lock}
use Rattle.basis.specs.declared.rows.Holder.TheVariants.{Nobody, Lock, Run as HoldingRun}
use Rattle.basis.specs.declared.rows.RunRow.{RunRow as Run}
use Rattle.machine.specs.declared.records.Workspace.{Workspace}

-- ---- a run is made

made_run : (h : Holder) (n now : ℕ) (plan_only : Bool) (key : Option (List ℕ)) (message : List ℕ) → IsRunAsk (record { key = key; message = message; plan_only = plan_only }) → IsMoment now
    → holds h n ≡ false → (plan_only ≡ false → is_nobody h ≡ false) → IsRun h (new_run n (record { key = key; message = message; plan_only = plan_only }) now)
made_run h n now true key message range moment apart somebody = record {
  key = range.0;
  message = range.1;
  created = moment;
  action = tt;
  active = λ e. absurd (let none : ⊥ = cc in none);
  waiting = λ e. absurd (let none : ⊥ = cc in none);
}
made_run h n now false key message range moment apart somebody = record {
  key = range.0;
  message = range.1;
  created = moment;
  action = tt;
  active = λ e. sym apart;
  waiting = λ e. (refl, somebody refl);
}

-- no run holds that is yet to be made
held_other : (h : Holder) (n : ℕ) (runs : List Run) → Rises 0 (map (λ (r : Run). r.number) runs) n → IsHolder h runs → holds h n ≡ false
held_other Nobody n runs rise held = refl
held_other (Lock id text) n runs rise held = refl
held_other (HoldingRun m) n runs rise held = passed (m == n) refl
  where
    passed : (b : Bool) → (m == n) ≡ b → b ≡ false
    passed true t =
        let none : run_of m runs ≡ None = ap (λ (k : ℕ). run_of k runs) (eqb-true m n t) ∙ none_numbered 0 runs n rise in
        absurd (subst (λ (o : Option Run). IsSomeAnd o (λ r. r.plan_only ≡ false)) none held)
    passed false t = refl

holder_more : (h : Holder) (runs : List Run) (r : Run) → IsHolder h runs → IsHolder h (runs ++ r ∷ [])
holder_more Nobody runs r held = tt
holder_more (Lock id text) runs r held = held
holder_more (HoldingRun m) runs r held = some_numbered-push (λ x. x.plan_only ≡ false) m runs r held

more_runs : (h : Holder) (runs : List Run) (r : Run) → 0 < r.number → r.number + 1 ≤ 1_000_000_001 → AreRuns h r.number runs → IsRun h r → open_runs runs < max_open_runs → keyed_run r.key runs ≡ None
    → AreRuns h (r.number + 1) (runs ++ r ∷ [])
more_runs h runs r above most are is room unkeyed = record {
  next = (omega (arith, above), most);
  rise = Rises-more 0 runs r above are.rise;
  each = all_by_recursion_push (IsRun h) runs r are.each is;
  open_runs = omega (arith, open_runs-push runs r, room);
  keys = keys_differ-push runs r are.keys unkeyed;
  held = holder_more h runs r are.held;
}

-- under a lock the runs stand as they did under nobody
as_under_lock : (next : ℕ) (runs : List Run) → AreRuns Nobody next runs → AreRuns (Lock (codes "x") []) next runs
as_under_lock next runs are = record {
  next = are.next;
  rise = are.rise;
  each = under_lock (codes "x") [] runs are.each;
  open_runs = are.open_runs;
  keys = are.keys;
  held = refl;
}

pub added_is_lawful : (w : Workspace) (ask : RunAsk) (now n : ℕ) (h : Holder) → w.holder ≡ h → number_left w.next_run ≡ Some n → open_runs w.runs < max_open_runs → keyed_run ask.key w.runs ≡ None
    → IsRunAsk ask → IsMoment now → IsLawful w → IsLawful (settled (with_run (new_run n ask now) w))
added_is_lawful w ask now n h e left room unkeyed range moment lawful = by_holder h e
  where
    r : Run
    r = new_run n ask now

    is : (n ≡ w.next_run) × (1 ≤ n) × (n ≤ 1_000_000_000)
    is = number_left-is w.next_run n left

    are : AreRuns w.holder n w.runs
    are = subst (λ (k : ℕ). AreRuns w.holder k w.runs) (sym is.0) lawful.runs

    above : 0 < n
    above = omega (arith, is.1)

    most : n + 1 ≤ 1_000_000_001
    most = omega (arith, is.2)

    stays : (g : Holder) → w.holder ≡ g → is_nobody g ≡ false → IsLawful (settled (with_run (new_run n ask now) w))
    stays g at somebody =
        let all : AreRuns g n w.runs = subst (λ (x : Holder). AreRuns x n w.runs) at are in
        let own : IsRun g (new_run n ask now) = made_run g n now ask.plan_only ask.key ask.message range moment (held_other g n w.runs all.rise all.held) (λ _. somebody) in
        still_is_lawful (with_run (new_run n ask now) w) (record {
          versions = lawful.versions;
          runs = subst (λ (x : Holder). AreRuns x (n + 1) (w.runs ++ new_run n ask now ∷ [])) (sym at) (more_runs g w.runs (new_run n ask now) above most all own room unkeyed);
          released = lawful.released;
        })

    by_holder : (g : Holder) → w.holder ≡ g → IsLawful (settled (with_run (new_run n ask now) w))
    by_holder Nobody at =
        let all : AreRuns (Lock (codes "x") []) n w.runs = as_under_lock n w.runs (subst (λ (x : Holder). AreRuns x n w.runs) at are) in
        let own : IsRun (Lock (codes "x") []) (new_run n ask now) = made_run (Lock (codes "x") []) n now ask.plan_only ask.key ask.message range moment refl (λ _. refl) in
        freed_is_lawful (codes "x") [] (with_run (new_run n ask now) w) at lawful.versions (more_runs (Lock (codes "x") []) w.runs (new_run n ask now) above most all own room unkeyed) lawful.released
    by_holder (Lock id text) at = stays (Lock id text) at refl
    by_holder (HoldingRun m) at = stays (HoldingRun m) at refl

-- ---- a run takes an action

-- each run after it: the one of the number is in the new status, the others are as they were
after_run : (h g : Holder) (n : ℕ) (action : RunAction) (status : RunStatus) (auto_apply : Bool) (r x : Run) → next_status r.plan_only auto_apply r.status action ≡ Some status
    → ((x.number == n) ≡ false → holds g x.number ≡ holds h x.number) → (r.plan_only ≡ false → is_active status ≡ holds g n) → (is_nobody h ≡ false → is_nobody g ≡ false)
    → (x.number ≡ n → x ≡ r) → IsRun h x → IsRun g (reported n action status x)
after_run h g n action status auto_apply r x leads others own somebody alone is = passed (x.number == n) refl
  where
    passed : (b : Bool) → (x.number == n) ≡ b → IsRun g (record x { status = cond b status x.status; action = cond b (Some action) x.action })
    passed true t =
        let at : x.number ≡ n = eqb-true x.number n t in
        let kind : r.plan_only ≡ x.plan_only = ap (λ (y : Run). y.plan_only) (sym (alone at)) in
        record {
          key = is.key;
          message = is.message;
          created = is.created;
          action = subst (λ (b : Bool). IsWhereActionEnds b (Some action) status) kind (leads_where_it_ends r.plan_only auto_apply r.status action status leads);
          active = λ queued. own (kind ∙ queued) ∙ ap (holds g) (sym at);
          waiting = λ e. absurd (let none : ⊥ = cc (sym e ∙ never_pending r.plan_only auto_apply r.status action status leads) in none);
        }
    passed false t = record {
      key = is.key;
      message = is.message;
      created = is.created;
      action = is.action;
      active = λ queued. is.active queued ∙ sym (others t);
      waiting = λ e. ((is.waiting e).0, somebody (is.waiting e).1);
    }

reported_runs : (h g : Holder) (n : ℕ) (action : RunAction) (status : RunStatus) (auto_apply : Bool) (r : Run) (next : ℕ) (runs : List Run)
    → run_of n runs ≡ Some r → next_status r.plan_only auto_apply r.status action ≡ Some status
    → ((x : Run) → (x.number == n) ≡ false → holds g x.number ≡ holds h x.number) → (r.plan_only ≡ false → is_active status ≡ holds g n) → (is_nobody h ≡ false → is_nobody g ≡ false)
    → IsHolder g (map (reported n action status) runs) → AreRuns h next runs → AreRuns g next (map (reported n action status) runs)
reported_runs h g n action status auto_apply r next runs there leads others own somebody held are =
    let f : Run → Run = reported n action status in
    let alone : AllByRecursion (λ (x : Run). x.number ≡ n → x ≡ r) runs = only_one_numbered n 0 runs next r are.rise there in
    record {
      next = are.next;
      rise = subst (λ (ns : List ℕ). Rises 0 ns next) (sym (numbers-map f (λ x. refl) runs)) are.rise;
      each =
          all-map (λ (x : Run). (x.number ≡ n → x ≡ r) × IsRun h x) (IsRun g) f (λ x both. after_run h g n action status auto_apply r x leads (others x) own somebody both.0 both.1) runs
          (all-both (λ (x : Run). x.number ≡ n → x ≡ r) (IsRun h) (λ (x : Run). (x.number ≡ n → x ≡ r) × IsRun h x) (λ x a b. (a, b)) runs alone are.each);
      open_runs = omega (arith, are.open_runs, open_runs-map f runs (opens runs alone));
      keys = keys_differ-map f (λ x. refl) runs are.keys;
      held = held;
    }
  where
    opened : (x : Run) → (x.number ≡ n → x ≡ r) → (b : Bool) → (x.number == n) ≡ b → is_open (cond b status x.status) ≡ true → is_open x.status ≡ true
    opened x alone true t e = ap (λ (y : Run). is_open y.status) (alone (eqb-true x.number n t)) ∙ from_open r.plan_only auto_apply r.status action status leads
    opened x alone false t e = e

    opens : (l : List Run) → AllByRecursion (λ (x : Run). x.number ≡ n → x ≡ r) l → AllByRecursion (λ (x : Run). is_open (reported n action status x).status ≡ true → is_open x.status ≡ true) l
    opens [] all = tt
    opens (x ∷ l) all = (opened x all.0 (x.number == n) refl, opens l all.1)

some_mapped : (f : Run → Run) (same : (x : Run) → (f x).plan_only ≡ x.plan_only) (o : Option Run) → IsSomeAnd o (λ r. r.plan_only ≡ false) → IsSomeAnd (option_map f o) (λ r. r.plan_only ≡ false)
some_mapped f same None h = h
some_mapped f same (Some r) h = same r ∙ h

holder_reported : (h : Holder) (f : Run → Run) (number : (x : Run) → (f x).number ≡ x.number) (kind : (x : Run) → (f x).plan_only ≡ x.plan_only) (runs : List Run) → IsHolder h runs → IsHolder h (map f runs)
holder_reported Nobody f number kind runs held = tt
holder_reported (Lock id text) f number kind runs held = held
holder_reported (HoldingRun m) f number kind runs held =
    subst (λ (o : Option Run). IsSomeAnd o (λ r. r.plan_only ≡ false)) (sym (run_of-map f number m runs)) (some_mapped f kind (run_of m runs) held)

-- while the run doesn't end, or holds nothing, who holds stays
stays_active : (h : Holder) (n : ℕ) (action : RunAction) (status : RunStatus) (auto_apply : Bool) (r : Run) → next_status r.plan_only auto_apply r.status action ≡ Some status
    → frees n status h ≡ false → (r.plan_only ≡ false → is_active r.status ≡ holds h n) → r.plan_only ≡ false → is_active status ≡ holds h n
stays_active h n action status auto_apply r leads keeps before queued = by_hold (holds h n) refl (is_open status) refl
  where
    queued_leads : next_status false auto_apply r.status action ≡ Some status
    queued_leads = subst (λ (b : Bool). next_status b auto_apply r.status action ≡ Some status) queued leads

    by_hold : (b : Bool) → holds h n ≡ b → (c : Bool) → is_open status ≡ c → is_active status ≡ b
    by_hold true t true o = open_is_active status (never_pending r.plan_only auto_apply r.status action status leads) o
    by_hold true t false o = absurd (let none : ⊥ = cc (sym (ap not o) ∙ ap (λ (b : Bool). b && not (is_open status)) (sym t) ∙ keeps) in none)
    by_hold false t c o = stays_idle auto_apply r.status action status queued_leads (before queued ∙ t)

pub reported_is_lawful : (w : Workspace) (n : ℕ) (action : RunAction) (status : RunStatus) (r : Run) → run_of n w.runs ≡ Some r → next_status r.plan_only w.settings.runs.auto_apply r.status action ≡ Some status
    → IsLawful w → IsLawful (settled (with_report n action status w))
reported_is_lawful w n action status r there leads lawful = by_frees (frees n status w.holder) refl
  where
    before : r.plan_only ≡ false → is_active r.status ≡ holds w.holder n
    before queued = (all_found (IsRun w.holder) n w.runs r lawful.runs.each there).active queued ∙ ap (holds w.holder) (run_of-number n w.runs r there)

    stays : frees n status w.holder ≡ false → AreRuns w.holder w.next_run (map (reported n action status) w.runs)
    stays keeps =
        reported_runs w.holder w.holder n action status w.settings.runs.auto_apply r w.next_run w.runs there leads (λ x t. refl)
        (stays_active w.holder n action status w.settings.runs.auto_apply r leads keeps before) (λ e. e)
        (holder_reported w.holder (reported n action status) (λ x. refl) (λ x. refl) w.runs lawful.runs.held) lawful.runs

    ends : (h : Holder) → w.holder ≡ h → frees n status h ≡ true → AreRuns (Lock (codes "x") []) w.next_run (map (reported n action status) w.runs)
    ends Nobody e is = absurd (let none : ⊥ = cc in none)
    ends (Lock id text) e is = absurd (let none : ⊥ = cc in none)
    ends (HoldingRun m) e is = both (m == n) refl (is_open status) refl is
      where
        both : (b : Bool) → (m == n) ≡ b → (c : Bool) → is_open status ≡ c → (b && not c) ≡ true → AreRuns (Lock (codes "x") []) w.next_run (map (reported n action status) w.runs)
        both true t true o is = absurd (let none : ⊥ = cc in none)
        both true t false o is =
            reported_runs (HoldingRun m) (Lock (codes "x") []) n action status w.settings.runs.auto_apply r w.next_run w.runs there leads
            (λ x apart. sym (ne_eqb m x.number (λ at. eqb-false x.number n apart (sym at ∙ eqb-true m n t))))
            (λ queued. ended_is_idle status o) (λ e. refl) refl (subst (λ (h : Holder). AreRuns h w.next_run w.runs) e lawful.runs)
        both false t c o is = absurd (let none : ⊥ = cc in none)

    by_frees : (b : Bool) → frees n status w.holder ≡ b → IsLawful (settled (record w { holder = cond b Nobody w.holder; runs = map (reported n action status) w.runs }))
    by_frees false keeps = still_is_lawful (record w { runs = map (reported n action status) w.runs }) (record { versions = lawful.versions; runs = stays keeps; released = lawful.released })
    by_frees true is =
        freed_is_lawful (codes "x") [] (record w { holder = Nobody; runs = map (reported n action status) w.runs }) refl lawful.versions (ends w.holder refl is) lawful.released
