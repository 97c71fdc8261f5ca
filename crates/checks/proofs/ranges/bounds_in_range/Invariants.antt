use Rattle.checks.proofs.Outside.{take, AllByRecursion, IsBoundRow}
use Rattle.checks.specs.Judging.{Judges}
use Rattle.checks.specs.Faults.{BoundsOutside}
use Rattle.checks.proofs.ranges.bounds_in_range.Given as goal

abbrev pub invariant-loop-row : goal.invariant-loop-row
invariant-loop-row l = Judges (BoundsOutside (take l.row-index l.bounds)) (AllByRecursion IsBoundRow (take l.row-index l.bounds)) l.fn.found l.found
