-- Names with equal bytes are one, and the ID of a run is its prefix and its digits.
use Rattle.std.proofs.Common.{◌≡◌, ◌≢◌, ℕ, List, ◌++◌, Bool, true, false, codes, bytes_eq, refl}
use Rattle.std.specs.Prelude.{decimal}
use Rattle.std.specs.Bool.{Decides}
use Rattle.std.proofs.lemmas.Slice.Eq.{bytes_eq-Decides}
use Rattle.basis.specs.Names.{run_id}

pub equal_bytes : (a b : List ℕ) → bytes_eq a b ≡ true → a ≡ b
equal_bytes a b e = (bytes_eq-Decides a b).0 e

pub digits_compared : (id digits : List ℕ) (n : ℕ) → id ≡ codes "run-" ++ digits → bytes_eq digits (decimal n) ≡ bytes_eq id (run_id n)
unfolding run_id
digits_compared id digits n named = rw named refl

pub no_run : (id : List ℕ) (n : ℕ) → ((rest : List ℕ) → id ≢ codes "run-" ++ rest) → false ≡ bytes_eq id (run_id n)
unfolding run_id
no_run id n unnamed = by (bytes_eq id (codes "run-" ++ decimal n)) (bytes_eq-Decides id (codes "run-" ++ decimal n))
  where
    by : (same : Bool) → Decides same (id ≡ codes "run-" ++ decimal n) → false ≡ same
    by true reports = absurd (unnamed (decimal n) (reports.0 refl))
    by false reports = refl
