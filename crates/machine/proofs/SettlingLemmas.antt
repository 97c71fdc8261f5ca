-- A workspace whose lock is released settles, and is lawful then; the run that starts has the least number of those that wait.
use Rattle.machine.proofs.Outside.{◌≡◌, ℕ, suc, ◌<◌, ◌≤◌, ◌==◌, Bool, true, false, not, ◌&&◌, cond, List, [], ◌∷◌, length, map, filter, Option, Some, None, IfSome, IsSomeAnd, IsTrue, refl, sym, ap, subst, ◌∙◌, arith, eq-eqb, eqb-true, ne_eqb, eqb-false, AllByRecursion, is_free_id, is_open, RunStatus, Pending, Planning, Planned, Applying, Applied, PlannedAndFinished, Errored, Discarded, Canceled, RunAction, Holder}
use Rattle.std.specs.Prelude.{find, option_map}
use Rattle.machine.specs.Workspaces.{run_of}
use Rattle.machine.specs.Laws.{Rises, IsRun, AreVersions, AreRuns, IsLawful, IsWhereActionEnds, is_pending}
use Rattle.machine.specs.Settling.{is_waiting, first_waiting, begun, to_start, started_if, settled}
use Rattle.machine.proofs.RunLemmas.{numbers-map, keys_differ-map}
use Rattle.machine.specs.Rules.{released}
use Rattle.basis.specs.declared.rows.Holder.TheVariants.{Nobody, Lock, Run as HoldingRun}
use Rattle.basis.specs.declared.rows.RunRow.{RunRow as Run}
use Rattle.machine.specs.declared.records.Workspace.{Workspace}

-- a run that waits is pending, and not plan-only
waits_is : (b c : Bool) → (b && not c) ≡ true → (b ≡ true) × (c ≡ false)
waits_is true true e = absurd (let no : ⊥ = cc in no)
waits_is true false e = (refl, refl)
waits_is false c e = absurd (let no : ⊥ = cc in no)

-- where no run waits, nobody may hold
none_left : (id text : List ℕ) (runs : List Run) → find is_waiting runs ≡ None → AllByRecursion (IsRun (Lock id text)) runs → AllByRecursion (IsRun Nobody) runs
none_left id text [] none all = tt
none_left id text (r ∷ runs) none all = passed (is_waiting r) refl none (λ rest. none_left id text runs rest all.1)
  where
    passed : (b : Bool) → is_waiting r ≡ b → cond b (Some r) (find is_waiting runs) ≡ None → (find is_waiting runs ≡ None → AllByRecursion (IsRun Nobody) runs) → AllByRecursion (IsRun Nobody) (r ∷ runs)
    passed true e some more = absurd (let no : ⊥ = cc in no)
    passed false e rest more = (
      record {
        key = all.0.key;
        message = all.0.message;
        created = all.0.created;
        action = all.0.action;
        active = all.0.active;
        waiting = λ p. absurd (let no : ⊥ = cc (sym e ∙ ap (λ (b : Bool). b && not r.plan_only) p ∙ ap not (all.0.waiting p).0) in no);
      },
      more rest,
    )

-- the runs of one number wait
abbrev AreWaiting : ℕ → List Run → Type 0
AreWaiting n runs = AllByRecursion (λ (r : Run). r.number ≡ n → is_waiting r ≡ true) runs

-- numbers that rise from n on are others
all_above : (n low : ℕ) (runs : List Run) (next : ℕ) → n ≤ low → Rises low (map (λ (r : Run). r.number) runs) next → AreWaiting n runs
all_above n low [] next le rise = tt
all_above n low (r ∷ runs) next le rise = (λ e. absurd (omega (arith, e, le, rise.0)), all_above n r.number runs next (omega (arith, le, rise.0)) rise.2)

-- the first that waits has its number alone
pub first_alone : (low : ℕ) (runs : List Run) (next : ℕ) (f : Run) → find is_waiting runs ≡ Some f → Rises low (map (λ (r : Run). r.number) runs) next
    → (low < f.number) × AreWaiting f.number runs
first_alone low [] next f found rise = absurd (let no : ⊥ = cc in no)
first_alone low (r ∷ runs) next f found rise = passed (is_waiting r) refl found (λ is. first_alone r.number runs next f is rise.2)
  where
    passed : (b : Bool) → is_waiting r ≡ b → cond b (Some r) (find is_waiting runs) ≡ Some f
        → (find is_waiting runs ≡ Some f → (r.number < f.number) × AreWaiting f.number runs) → (low < f.number) × AreWaiting f.number (r ∷ runs)
    passed true e is more =
        let same : r ≡ f = cc in
        let at : r.number ≡ f.number = ap (λ (s : Run). s.number) same in
        (omega (arith, at, rise.0), ((λ _. e), all_above f.number r.number runs next (omega (arith, at)) rise.2))
    passed false e is more =
        let rest : (r.number < f.number) × AreWaiting f.number runs = more is in
        (omega (arith, rest.0, rise.0), ((λ at. absurd (omega (arith, at, rest.0))), rest.1))

least_above : (m low : ℕ) (rs : List Run) (next : ℕ) → m ≤ low → Rises low (map (λ (r : Run). r.number) rs) next → AllByRecursion (λ (r : Run). is_waiting r ≡ true → m ≤ r.number) rs
least_above m low [] next le rise = tt
least_above m low (s ∷ rs) next le rise = ((λ _. omega (arith, le, rise.0)), least_above m s.number rs next (omega (arith, le, rise.0)) rise.2)

-- it is the least of those that wait
pub least_starts : (low : ℕ) (runs : List Run) (next : ℕ) (n : ℕ) → first_waiting runs ≡ Some n → Rises low (map (λ (r : Run). r.number) runs) next
    → AllByRecursion (λ (r : Run). is_waiting r ≡ true → n ≤ r.number) runs
least_starts low [] next n found rise = tt
least_starts low (r ∷ runs) next n found rise = passed (is_waiting r) refl found (λ is. least_starts r.number runs next n is rise.2)
  where
    passed : (b : Bool) → is_waiting r ≡ b → option_map (λ (s : Run). s.number) (cond b (Some r) (find is_waiting runs)) ≡ Some n
        → (first_waiting runs ≡ Some n → AllByRecursion (λ (r : Run). is_waiting r ≡ true → n ≤ r.number) runs) → AllByRecursion (λ (r : Run). is_waiting r ≡ true → n ≤ r.number) (r ∷ runs)
    passed true e is more =
        let at : r.number ≡ n = cc in
        ((λ _. omega (arith, at)), least_above n r.number runs next (omega (arith, at)) rise.2)
    passed false e is more = ((λ w. absurd (let no : ⊥ = cc (sym e ∙ w) in no)), more is)

-- what no action has reached may be planning
may_plan : (plan_only : Bool) (action : Option RunAction) → IsWhereActionEnds plan_only action Pending → IsWhereActionEnds plan_only action Planning
may_plan plan_only None h = tt
may_plan true (Some a) h = absurd (let no : ⊥ = none a h in no)
  where
    none : (a : RunAction) → IsWhereActionEnds true (Some a) Pending → ⊥
    none RunAction.ReportPlanned h = cc
    none RunAction.ReportUnchanged h = cc
    none RunAction.Fail h = cc
    none RunAction.Confirm h = cc
    none RunAction.ReportApplied h = cc
    none RunAction.Discard h = cc
    none RunAction.Cancel h = cc
may_plan false (Some a) h = absurd (let no : ⊥ = none a h in no)
  where
    none : (a : RunAction) → IsWhereActionEnds false (Some a) Pending → ⊥
    none RunAction.ReportPlanned h = cc
    none RunAction.ReportUnchanged h = cc
    none RunAction.Fail h = cc
    none RunAction.Confirm h = cc
    none RunAction.ReportApplied h = cc
    none RunAction.Discard h = cc
    none RunAction.Cancel h = cc

-- only one status is pending
pending_is : (s : RunStatus) → is_pending s ≡ true → s ≡ Pending
pending_is Pending e = refl
pending_is Planning e = absurd (let no : ⊥ = cc in no)
pending_is Planned e = absurd (let no : ⊥ = cc in no)
pending_is Applying e = absurd (let no : ⊥ = cc in no)
pending_is Applied e = absurd (let no : ⊥ = cc in no)
pending_is PlannedAndFinished e = absurd (let no : ⊥ = cc in no)
pending_is Errored e = absurd (let no : ⊥ = cc in no)
pending_is Discarded e = absurd (let no : ⊥ = cc in no)
pending_is Canceled e = absurd (let no : ⊥ = cc in no)

-- a run that waited is planning, and holds
begun_run : (id text : List ℕ) (n : ℕ) (r : Run) → r.number ≡ n → is_waiting r ≡ true → IsRun (Lock id text) r → IsRun (HoldingRun n) (record r { status = Planning })
begun_run id text n r at waits is =
    let both : (is_pending r.status ≡ true) × (r.plan_only ≡ false) = waits_is (is_pending r.status) r.plan_only waits in
    record {
      key = is.key;
      message = is.message;
      created = is.created;
      action = may_plan r.plan_only r.action (subst (λ (s : RunStatus). IsWhereActionEnds r.plan_only r.action s) (pending_is r.status both.0) is.action);
      active = λ _. sym (eq-eqb n r.number (sym at));
      waiting = λ e. absurd (let no : ⊥ = cc in no);
    }

-- another run stays
other_run : (id text : List ℕ) (n : ℕ) (r : Run) → (n == r.number) ≡ false → IsRun (Lock id text) r → IsRun (HoldingRun n) r
other_run id text n r apart is = record {
  key = is.key;
  message = is.message;
  created = is.created;
  action = is.action;
  active = λ queued. is.active queued ∙ sym apart;
  waiting = λ e. ((is.waiting e).0, refl);
}

all_begun : (id text : List ℕ) (n : ℕ) (runs : List Run) → AreWaiting n runs → AllByRecursion (IsRun (Lock id text)) runs → AllByRecursion (IsRun (HoldingRun n)) (map (begun n) runs)
all_begun id text n [] waiting all = tt
all_begun id text n (r ∷ runs) waiting all = (passed (r.number == n) refl, all_begun id text n runs waiting.1 all.1)
  where
    passed : (b : Bool) → (r.number == n) ≡ b → IsRun (HoldingRun n) (record r { status = cond b Planning r.status })
    passed true e = let at : r.number ≡ n = eqb-true r.number n e in begun_run id text n r at (waiting.0 at) all.0
    passed false e = other_run id text n r (ne_eqb n r.number (λ at. eqb-false r.number n e (sym at))) all.0

-- as many runs are open
open_begun : (n : ℕ) (runs : List Run) → AreWaiting n runs → length (filter (λ (r : Run). is_open r.status) (map (begun n) runs)) ≡ length (filter (λ (r : Run). is_open r.status) runs)
open_begun n [] waiting = refl
open_begun n (r ∷ runs) waiting = counted (is_open (cond (r.number == n) Planning r.status)) (is_open r.status) (both (r.number == n) refl) (open_begun n runs waiting.1)
  where
    both : (b : Bool) → (r.number == n) ≡ b → is_open (cond b Planning r.status) ≡ is_open r.status
    both true e =
        let is : r.status ≡ Pending = pending_is r.status (waits_is (is_pending r.status) r.plan_only (waiting.0 (eqb-true r.number n e))).0 in
        rw is refl
    both false e = refl

    counted : (a b : Bool) → a ≡ b → length (filter (λ (s : Run). is_open s.status) (map (begun n) runs)) ≡ length (filter (λ (s : Run). is_open s.status) runs)
        → length (cond a (record r { status = cond (r.number == n) Planning r.status } ∷ filter (λ (s : Run). is_open s.status) (map (begun n) runs)) (filter (λ (s : Run). is_open s.status) (map (begun n) runs)))
        ≡ length (cond b (r ∷ filter (λ (s : Run). is_open s.status) runs) (filter (λ (s : Run). is_open s.status) runs))
    counted true true e more = ap suc more
    counted true false e more = absurd (let no : ⊥ = cc in no)
    counted false true e more = absurd (let no : ⊥ = cc in no)
    counted false false e more = more

-- the run that holds is a queued run of the list
held_begun : (n : ℕ) (runs : List Run) (f : Run) → find is_waiting runs ≡ Some f → f.number ≡ n → AreWaiting n runs → IsSomeAnd (run_of n (map (begun n) runs)) (λ r. r.plan_only ≡ false)
held_begun n [] f found at waiting = absurd (let no : ⊥ = cc in no)
held_begun n (r ∷ runs) f found at waiting = passed (r.number == n) refl (is_waiting r) refl found (λ is. held_begun n runs f is at waiting.1)
  where
    passed : (b : Bool) → (r.number == n) ≡ b → (c : Bool) → is_waiting r ≡ c → cond c (Some r) (find is_waiting runs) ≡ Some f
        → (find is_waiting runs ≡ Some f → IsSomeAnd (run_of n (map (begun n) runs)) (λ s. s.plan_only ≡ false))
        → IsSomeAnd (cond b (Some (record r { status = cond (r.number == n) Planning r.status })) (run_of n (map (begun n) runs))) (λ s. s.plan_only ≡ false)
    passed true e c w is more = (waits_is (is_pending r.status) r.plan_only (waiting.0 (eqb-true r.number n e))).1
    passed false e true w is more = absurd (let same : r ≡ f = cc in eqb-false r.number n e (ap (λ (s : Run). s.number) same ∙ at))
    passed false e false w is more = more is

-- where nobody holds, and all else is as it may be under a lock, a workspace settles
pub freed_is_lawful : (id text : List ℕ) (w : Workspace) → w.holder ≡ Nobody → AreVersions w.settings.retention w.next_version w.versions → AreRuns (Lock id text) w.next_run w.runs
    → IfSome w.released (λ x. IsTrue (is_free_id x)) → IsLawful (settled w)
freed_is_lawful id text w e versions runs released =
    subst (λ (h : Holder). IsLawful (started_if (to_start h (first_waiting w.runs)) w)) (sym e) (settling (find is_waiting w.runs) refl)
  where
    settling : (o : Option Run) → find is_waiting w.runs ≡ o → IsLawful (started_if (option_map (λ (r : Run). r.number) o) w)
    settling None none = record {
      versions = versions;
      runs = subst (λ (h : Holder). AreRuns h w.next_run w.runs) (sym e) (record {
        next = runs.next;
        rise = runs.rise;
        each = none_left id text w.runs none runs.each;
        open_runs = runs.open_runs;
        keys = runs.keys;
        held = tt;
      });
      released = released;
    }
    settling (Some f) found =
        let alone : (0 < f.number) × AreWaiting f.number w.runs = first_alone 0 w.runs w.next_run f found runs.rise in
        record {
          versions = versions;
          runs = record {
            next = runs.next;
            rise = subst (λ (ns : List ℕ). Rises 0 ns w.next_run) (sym (numbers-map (begun f.number) (λ x. refl) w.runs)) runs.rise;
            each = all_begun id text f.number w.runs alone.1 runs.each;
            open_runs = rw (open_begun f.number w.runs alone.1) runs.open_runs;
            keys = keys_differ-map (begun f.number) (λ x. refl) w.runs runs.keys;
            held = held_begun f.number w.runs f found refl alone.1;
          };
          released = released;
        }

-- the lock goes, and the workspace settles
pub release_is_lawful : (id text : List ℕ) (w : Workspace) → w.holder ≡ Lock id text → IsLawful w → IsLawful (settled (released id w))
release_is_lawful id text w e lawful =
    let runs : AreRuns (Lock id text) w.next_run w.runs = subst (λ (h : Holder). AreRuns h w.next_run w.runs) e lawful.runs in
    freed_is_lawful id text (released id w) refl lawful.versions runs runs.held
