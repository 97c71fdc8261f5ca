use Rattle.checks.proofs.Outside.{◌≡◌, ℕ, List, take, list_any, AreNamedApart, is_of}
use Rattle.checks.specs.Judging.{Judges}
use Rattle.checks.specs.Faults.{SameNames}
use Rattle.checks.specs.Inner.Keys.{has_key}
use Rattle.checks.proofs.keys.names_apart.Given as goal

abbrev pub invariant-loop-row : goal.invariant-loop-row
invariant-loop-row g l = record {
  judged : Judges (SameNames (take l.row-index l.rows)) (AreNamedApart (take l.row-index l.rows)) l.fn.found l.found;
  keys : (org name : List ℕ) → has_key l.keys org name 0 0 ≡ list_any (is_of org name) (take l.row-index l.rows);
}
