use Rattle.checks.proofs.Outside.{◌≡◌, ℕ, List, take, list_any, AreApart, is_place}
use Rattle.checks.specs.Judging.{Judges}
use Rattle.checks.specs.Faults.{SamePlaces}
use Rattle.checks.specs.Inner.Keys.{has_key}
use Rattle.checks.proofs.keys.vpages_apart.Given as goal

abbrev pub invariant-loop-row : goal.invariant-loop-row
invariant-loop-row l = record {
  judged : Judges (SamePlaces (take l.row-index l.vpages)) (AreApart (λ a b. is_place a.1.org a.1.ws a.1.number a.1.place b) (take l.row-index l.vpages)) l.fn.found l.found;
  keys : (org ws : List ℕ) (n place : ℕ) → has_key l.keys org ws n place ≡ list_any (is_place org ws n place) (take l.row-index l.vpages);
}
