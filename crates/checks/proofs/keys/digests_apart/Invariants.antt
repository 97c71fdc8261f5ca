use Rattle.checks.proofs.Outside.{◌≡◌, ℕ, List, take, list_any, AreApart, is_digest_of}
use Rattle.checks.specs.Judging.{Judges}
use Rattle.checks.specs.Faults.{SameDigests}
use Rattle.checks.specs.Inner.Keys.{has_key}
use Rattle.checks.proofs.keys.digests_apart.Given as goal

abbrev pub invariant-loop-row : goal.invariant-loop-row
invariant-loop-row l = record {
  judged : Judges (SameDigests (take l.row-index l.tokens)) (AreApart (λ a b. is_digest_of a.1.org a.1.it.digest b) (take l.row-index l.tokens)) l.fn.found l.found;
  keys : (org digest : List ℕ) → has_key l.keys org digest 0 0 ≡ list_any (is_digest_of org digest) (take l.row-index l.tokens);
}
