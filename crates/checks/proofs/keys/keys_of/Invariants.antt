use Rattle.checks.proofs.Outside.{◌≡◌, ℕ, List, take, list_any, is_of}
use Rattle.checks.specs.Inner.Keys.{has_key}
use Rattle.checks.proofs.keys.keys_of.Given as goal

abbrev pub invariant-loop-row : goal.invariant-loop-row
invariant-loop-row g l = (org name : List ℕ) → has_key l.keys org name 0 0 ≡ list_any (is_of org name) (take l.row-index l.rows)
