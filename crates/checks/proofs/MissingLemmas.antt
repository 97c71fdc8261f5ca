-- Runs that are missing.
use Rattle.checks.proofs.Outside.{◌≡◌, ◌∙◌, ◌≤◌, ◌<◌, ◌+◌, ◌⊎◌, inl, inr, ℕ, true, List, Some, refl, sym, ap, subst, true≢false, arith, below_more, AllByRecursion, cases_lt, Kept, WsRow, RunRow, Tables}
use Rattle.checks.specs.declared.found.Fault.{Fault}
use Rattle.checks.specs.declared.found.FaultKind.TheVariants as kind
use Rattle.checks.specs.declared.found.Found.{Found}
use Rattle.checks.specs.Judging.{fault_of, noted, Judges}
use Rattle.checks.specs.Faults.{LacksRun}
use Rattle.checks.specs.Missing.{has_run, HasRunsBelow, HasItsRuns, IsFirstMissing, HasEveryRun}
use Rattle.checks.proofs.JudgingLemmas.{judges_this, judges_none}

module _ (runs : List (Kept RunRow)) (x : WsRow) where
  -- no number is below 1
  pub none_below : HasRunsBelow runs x 1
  none_below n least below = absurd (omega (arith, least, below))

  -- one run more is there
  pub one_more_run : (n : ℕ) → HasRunsBelow runs x n → has_run runs x n ≡ true → HasRunsBelow runs x (n + 1)
  one_more_run n lower here m least below = below_more (λ k. 1 ≤ k → has_run runs x k ≡ true) n (λ k low from. lower k from low) (λ _. here) m below least

  not_lower : (m n : ℕ) → IsFirstMissing runs x m → IsFirstMissing runs x n → m < n → ⊥
  not_lower m n one other low = true≢false (sym (other.lower m one.is_number low) ∙ one.missing)

  -- only one number is the lowest
  one_lowest : (m n : ℕ) → IsFirstMissing runs x m → IsFirstMissing runs x n → m ≡ n
  one_lowest m n one other = go (cases_lt m n) (cases_lt n m)
    where
      go : (m < n) ⊎ (n ≤ m) → (n < m) ⊎ (m ≤ n) → m ≡ n
      go (inl low) second = absurd (not_lower m n one other low)
      go (inr high) (inl low) = absurd (not_lower n m other one low)
      go (inr high) (inr low) = omega (arith, high, low)

  -- a run is missing, and its fault was noted
  pub lacks_judged : (n : ℕ) (a b : Found) → IsFirstMissing runs x n → b.faults ≡ noted (fault_of kind.MissingRun x.org x.name (Some n)) a.faults → Judges (LacksRun runs x) (HasItsRuns runs x) a b
  lacks_judged n a b first is =
      judges_this (fault_of kind.MissingRun x.org x.name (Some n)) a b (λ all. true≢false (sym (all n first.is_number first.given) ∙ first.missing)) is (n, first, refl)
      (λ f says. says.2 ∙ ap (λ m. fault_of kind.MissingRun x.org x.name (Some m)) (one_lowest says.0 n says.1 first))

  -- no run is missing, and nothing was noted
  pub none_lacks : (a : Found) → HasItsRuns runs x → Judges (LacksRun runs x) (HasItsRuns runs x) a a
  none_lacks a all = judges_none a all (λ f says. true≢false (sym (all says.0 says.1.is_number says.1.given) ∙ says.1.missing))

-- what is said of rows is said of the tables that have them
pub missing_in : {S : Fault → Type 0} (t : Tables) (runs : List (Kept RunRow)) (wss : List (Kept WsRow)) (a b : Found) → runs ≡ t.runs → wss ≡ t.wss
    → Judges S (AllByRecursion (λ x. HasItsRuns runs x.1) wss) a b → Judges S (HasEveryRun t) a b
missing_in {S} t runs wss a b same also judged = subst (λ (law : Type 0). Judges S law a b) (λ i. AllByRecursion (λ x. HasItsRuns (same i) x.1) (also i)) judged
