-- Tests that decide laws.
use Rattle.checks.proofs.Outside.{◌≤◌, ◌<◌, ℕ, Bool, ◌&&◌, nat_le, nat_lt, List, [], ◌∷◌, IsTrue, refl, ◌↔◌, AllByRecursion, list_all, and_from, leb-true, le-leb, ltb-true, lt-ltb, first_of_both, second_of_both}

pub at_most : (m n : ℕ) → IsTrue (nat_le m n) ↔ (m ≤ n)
at_most m n = (leb-true m n, le-leb m n)

pub below : (m n : ℕ) → IsTrue (nat_lt m n) ↔ (m < n)
below m n = (ltb-true m n, lt-ltb m n)

pub both : {a b : Bool} {A B : Type 0} → (IsTrue a ↔ A) → (IsTrue b ↔ B) → IsTrue (a && b) ↔ (A × B)
both {a} {b} one two = (λ e. (one.0 (first_of_both a b e), two.0 (second_of_both a b e)), λ law. and_from a b (one.1 law.0) (two.1 law.1))

pub all_tests : {X : Type 0} (test : X → Bool) (P : X → Type 0) → ((x : X) → IsTrue (test x) ↔ P x) → (xs : List X) → IsTrue (list_all test xs) ↔ AllByRecursion P xs
all_tests test P each [] = (λ e. tt, λ all. refl)
all_tests test P each (x ∷ xs) = both (each x) (all_tests test P each xs)
