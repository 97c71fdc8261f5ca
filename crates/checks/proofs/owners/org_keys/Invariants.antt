use Rattle.checks.proofs.Outside.{◌≡◌, ℕ, List, [], take, list_any, is_org}
use Rattle.checks.specs.Inner.Keys.{has_key}
use Rattle.checks.proofs.owners.org_keys.Given as goal

abbrev pub invariant-loop-row : goal.invariant-loop-row
invariant-loop-row l = (name : List ℕ) → has_key l.keys [] name 0 0 ≡ list_any (is_org name) (take l.row-index l.orgs)
