use Rattle.checks.proofs.Outside.{◌≡◌, ◌&&◌, drop, list_all, contains_text}
use Rattle.checks.specs.Inner.Groups.{lent}
use Rattle.checks.specs.Runs.{keys_differ}
use Rattle.checks.proofs.RunKeys.{is_unseen}
use Rattle.checks.proofs.runs.keys_differ.Given as goal

-- the keys that are left differ from those seen and from one another where all differ
abbrev pub invariant-loop-run : goal.invariant-loop-run
invariant-loop-run l = (list_all (is_unseen (contains_text l.seen)) (lent (drop l.run-index l.runs)) && keys_differ (lent (drop l.run-index l.runs))) ≡ keys_differ (lent l.runs)
