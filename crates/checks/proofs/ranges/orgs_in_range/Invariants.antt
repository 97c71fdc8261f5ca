use Rattle.checks.proofs.Outside.{take, AllByRecursion, IsOrgRow}
use Rattle.checks.specs.Judging.{Judges}
use Rattle.checks.specs.Faults.{OrgsOutside}
use Rattle.checks.proofs.ranges.orgs_in_range.Given as goal

abbrev pub invariant-loop-row : goal.invariant-loop-row
invariant-loop-row l = Judges (OrgsOutside (take l.row-index l.orgs)) (AllByRecursion IsOrgRow (take l.row-index l.orgs)) l.fn.found l.found
