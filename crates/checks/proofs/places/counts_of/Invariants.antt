use Rattle.std.proofs.Common.{take}
use Rattle.checks.specs.Inner.Places.{HasCounts}
use Rattle.checks.proofs.places.counts_of.Given as goal

abbrev pub invariant-loop-row : goal.invariant-loop-row
invariant-loop-row l = HasCounts (take l.row-index l.vpages) l.counts
