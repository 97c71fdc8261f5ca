-- The laws of runs by the tests of their rows.
use Rattle.checks.proofs.Outside.{◌≡◌, ℕ, ◌≤◌, ◌==◌, Bool, true, false, not, nat_le, List, map, find, length, Option, Some, None, option_map, IfSome, IsSomeAnd, IsTrue, refl, sym, ap, ◌∙◌, subst, nat_cmp, true≢false, Equal, ◌↔◌, AllByRecursion, list_all, nat_cmp_total, tied_itself, and_from, eqb-true, not-true, sort_by, sort_by-map, IsPermutation-sort_by, first_of_both, second_of_both, has_length, Rises, IsRun, AreRuns, IsNext, KeysDiffer, IsHolder, IsWhereActionEnds, is_active, is_pending, holds, is_nobody, Tables, all_sorted, runs_at, by_run, by_run_total, runs_sorted, all_unsorted, count_sorted, found_sorted}
use Rattle.std.specs.Option.{unwrap_or}
use Rattle.basis.specs.Runs.{is_open}
use Rattle.basis.specs.declared.runs.RunStatus.{RunStatus}
use Rattle.basis.specs.declared.runs.RunStatus.TheVariants.{Pending, Planning, Planned, Applying, Applied, PlannedAndFinished, Errored, Discarded, Canceled}
use Rattle.basis.specs.declared.runs.RunAction.{RunAction}
use Rattle.basis.specs.declared.rows.Holder.{Holder}
use Rattle.basis.specs.declared.rows.Holder.TheVariants.{Nobody, Lock, Run as HoldingRun}
use Rattle.basis.specs.declared.rows.RunRow.{RunRow as Run}
use Rattle.machine.specs.Workspaces.{open_runs, run_of}
use Rattle.checks.specs.Versions.{rises, sorted}
use Rattle.checks.specs.Runs.{run_number, is_key, is_where_action_ends, is_active_rightly, waits_rightly, is_run, count_open, keys_differ, is_queued, is_held, are_runs}
use Rattle.checks.specs.Workspaces.{its_of}
use Rattle.checks.proofs.RunKeys.{keys_tests, permuted_keys}
use Rattle.checks.proofs.TestLemmas.{at_most, both, all_tests}
use Rattle.checks.proofs.VersionLaws.{rises_tests}

-- ---- one run

key_tests : (key : Option (List ℕ)) → IsTrue (is_key key) ↔ IfSome key (λ k. IsTrue (has_length 1 64 k))
key_tests None = (λ e. tt, λ h. refl)
key_tests (Some key) = (λ e. e, λ h. h)

where_tests : (plan_only : Bool) (action : Option RunAction) (status : RunStatus) → IsTrue (is_where_action_ends plan_only action status) ↔ IsWhereActionEnds plan_only action status
where_tests plan_only None Pending = (λ e. tt, λ h. refl)
where_tests plan_only None Planning = (λ e. tt, λ h. refl)
where_tests plan_only None Planned = (λ e. e, λ h. h)
where_tests plan_only None Applying = (λ e. e, λ h. h)
where_tests plan_only None Applied = (λ e. e, λ h. h)
where_tests plan_only None PlannedAndFinished = (λ e. e, λ h. h)
where_tests plan_only None Errored = (λ e. e, λ h. h)
where_tests plan_only None Discarded = (λ e. e, λ h. h)
where_tests plan_only None Canceled = (λ e. e, λ h. h)
where_tests true (Some action) status = (λ e. e, λ h. h)
where_tests false (Some action) status = (λ e. e, λ h. h)

active_tests : (p a h : Bool) → IsTrue (is_active_rightly p a h) ↔ (p ≡ false → a ≡ h)
active_tests true a h = (λ e f. absurd (true≢false f), λ law. refl)
active_tests false a true = (λ e f. e, λ law. law refl)
active_tests false a false = (λ e f. not-true a e, λ law. ap not (law refl))

waits_tests : (p w n : Bool) → IsTrue (waits_rightly p w n) ↔ (w ≡ true → (p ≡ false) × (n ≡ false))
waits_tests p false n = (λ e f. absurd (true≢false (sym f)), λ law. refl)
waits_tests p true n = (λ e f. (not-true p (first_of_both (not p) (not n) e), not-true n (second_of_both (not p) (not n) e)), λ law. and_from (not p) (not n) (ap not (law refl).0) (ap not (law refl).1))

run_tests : (holder : Holder) (r : Run) → IsTrue (is_run holder r) ↔ IsRun holder r
run_tests holder r =
    let tests =
    both (both (both (both (both (key_tests r.key) (at_most (length r.message) 1_000)) (at_most r.created 253_402_300_799)) (where_tests r.plan_only r.action r.status)) (active_tests r.plan_only (is_active r.status) (holds holder r.number)))
    (waits_tests r.plan_only (is_pending r.status) (is_nobody holder)) in (
      λ e. let law = tests.0 e in record { key = law.0.0.0.0.0; message = law.0.0.0.0.1; created = law.0.0.0.1; action = law.0.0.1; active = law.0.1; waiting = law.1 },
      λ law. tests.1 (((((law.key, law.message), law.created), law.action), law.active), law.waiting),
    )

-- ---- who holds

tied : (n : ℕ) (r s : Run) → (r.number == n) ≡ true → (s.number == n) ≡ true → by_run r s ≡ Equal
tied n r s e f = subst (λ m. nat_cmp r.number m ≡ Equal) (eqb-true r.number n e ∙ sym (eqb-true s.number n f)) (tied_itself nat_cmp_total r.number)

found_is : (n : ℕ) (rs : List Run) → run_of n (sort_by by_run rs) ≡ find (λ (r : Run). r.number == n) rs
found_is n = found_sorted by_run by_run_total (λ (r : Run). r.number == n) (tied n)

queued_tests : (o : Option Run) → IsTrue (unwrap_or (option_map (λ (r : Run). not r.plan_only) o) false) ↔ IsSomeAnd o (λ r. r.plan_only ≡ false)
queued_tests None = (λ e. absurd (true≢false (sym e)), λ h. absurd h)
queued_tests (Some r) = (not-true r.plan_only, ap not)

held_tests : (holder : Holder) (rs : List Run) → IsTrue (is_held holder rs) ↔ IsHolder holder (sort_by by_run rs)
held_tests Nobody rs = (λ e. tt, λ h. refl)
held_tests (Lock id text) rs = (λ e. e, λ h. h)
held_tests (HoldingRun n) rs = subst (λ o. IsTrue (is_queued n rs) ↔ IsSomeAnd o (λ (r : Run). r.plan_only ≡ false)) (sym (found_is n rs)) (queued_tests (find (λ (r : Run). r.number == n) rs))

-- ---- all runs

module _ (t : Tables) (org ws : List ℕ) (holder : Holder) where
  abbrev rs : List Run
  rs = its_of org ws t.runs

  numbers_are : map (λ (r : Run). r.number) (sort_by by_run rs) ≡ sorted (map run_number rs)
  numbers_are = sym (sort_by-map nat_cmp run_number rs)

  open_are : open_runs (sort_by by_run rs) ≡ count_open rs
  open_are = count_sorted by_run by_run_total (λ (r : Run). is_open r.status) rs

  each_tests : IsTrue (list_all (is_run holder) rs) ↔ AllByRecursion (IsRun holder) (sort_by by_run rs)
  each_tests = let tests = all_tests (is_run holder) (IsRun holder) (run_tests holder) rs in (λ e. all_sorted by_run (IsRun holder) rs (tests.0 e), λ all. tests.1 (all_unsorted by_run (IsRun holder) rs all))

  keys_are : IsTrue (keys_differ rs) ↔ KeysDiffer (sort_by by_run rs)
  keys_are = subst (λ b. IsTrue b ↔ KeysDiffer (sort_by by_run rs)) (permuted_keys (sort_by by_run rs) rs (IsPermutation-sort_by by_run by_run_total rs)) (keys_tests (sort_by by_run rs))

  abbrev Laws : ℕ → Type 0
  Laws next = (((Rises 0 (map (λ (r : Run). r.number) (sort_by by_run rs)) next × AllByRecursion (IsRun holder) (sort_by by_run rs)) × (open_runs (sort_by by_run rs) ≤ 100)) × IsHolder holder (sort_by by_run rs)) × KeysDiffer (sort_by by_run rs)

  runs_tests : (next : ℕ) → IsTrue (are_runs holder next rs) ↔ Laws next
  runs_tests next =
      both (both (both (both (subst (λ ms. IsTrue (rises 0 (sorted (map run_number rs)) next) ↔ Rises 0 ms next) (sym numbers_are) (rises_tests 0 next (sorted (map run_number rs)))) each_tests)
      (subst (λ n. IsTrue (nat_le (count_open rs) 100) ↔ (n ≤ 100)) (sym open_are) (at_most (count_open rs) 100))) (held_tests holder rs)) keys_are

  -- the rows that pass denote lawful runs
  pub runs_by_test : (next : ℕ) → IsNext next → are_runs holder next rs ≡ true → AreRuns holder next (runs_at t org ws)
  runs_by_test next nexts e =
      let law = (runs_tests next).0 e in
      subst (AreRuns holder next) (sym (runs_sorted t org ws)) (record { next = nexts; rise = law.0.0.0.0; each = law.0.0.0.1; open_runs = law.0.0.1; keys = law.1; held = law.0.1 })

  pub test_of_runs : (next : ℕ) → AreRuns holder next (runs_at t org ws) → are_runs holder next rs ≡ true
  test_of_runs next law = let are : AreRuns holder next (sort_by by_run rs) = subst (AreRuns holder next) (runs_sorted t org ws) law in (runs_tests next).1 ((((are.rise, are.each), are.open_runs), are.held), are.keys)
