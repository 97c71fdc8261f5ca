use Rattle.checks.proofs.Outside.{take, AllByRecursion, IsTokenRow}
use Rattle.checks.specs.Judging.{Judges}
use Rattle.checks.specs.Faults.{TokensOutside}
use Rattle.checks.proofs.ranges.tokens_in_range.Given as goal

abbrev pub invariant-loop-row : goal.invariant-loop-row
invariant-loop-row l = Judges (TokensOutside (take l.row-index l.tokens)) (AllByRecursion IsTokenRow (take l.row-index l.tokens)) l.fn.found l.found
