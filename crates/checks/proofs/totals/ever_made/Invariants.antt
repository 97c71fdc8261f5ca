use Rattle.checks.proofs.Outside.{◌≡◌, take}
use Rattle.checks.specs.Totals.{ever_made}
use Rattle.checks.proofs.totals.ever_made.Given as goal

abbrev pub invariant-loop-row : goal.invariant-loop-row
invariant-loop-row l = l.made ≡ ever_made (take l.row-index l.wss)
