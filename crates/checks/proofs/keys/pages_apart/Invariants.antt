use Rattle.checks.proofs.Outside.{◌≡◌, ℕ, ◌&&◌, ◌==◌, List, [], take, bytes_eq, list_any, AreApart}
use Rattle.checks.specs.Judging.{Judges}
use Rattle.checks.specs.Faults.{SamePages}
use Rattle.checks.specs.Inner.Keys.{has_key}
use Rattle.checks.proofs.keys.pages_apart.Given as goal

abbrev pub invariant-loop-head : goal.invariant-loop-head
invariant-loop-head l = record {
  judged : Judges (SamePages (take l.head-index l.heads)) (AreApart (λ a b. bytes_eq b.key a.key && b.twin == a.twin) (take l.head-index l.heads)) l.fn.found l.found;
  keys : (key : List ℕ) (twin : ℕ) → has_key l.keys [] key twin 0 ≡ list_any (λ x. bytes_eq x.key key && x.twin == twin) (take l.head-index l.heads);
}
