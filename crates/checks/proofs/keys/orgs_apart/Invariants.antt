use Rattle.checks.proofs.Outside.{◌≡◌, ℕ, List, [], take, list_any, AreApart, is_org}
use Rattle.checks.specs.Judging.{Judges}
use Rattle.checks.specs.Faults.{SameOrgs}
use Rattle.checks.specs.Inner.Keys.{has_key}
use Rattle.checks.proofs.keys.orgs_apart.Given as goal

abbrev pub invariant-loop-row : goal.invariant-loop-row
invariant-loop-row l = record {
  judged : Judges (SameOrgs (take l.row-index l.orgs)) (AreApart (λ a b. is_org a.1.name b) (take l.row-index l.orgs)) l.fn.found l.found;
  keys : (name : List ℕ) → has_key l.keys [] name 0 0 ≡ list_any (is_org name) (take l.row-index l.orgs);
}
