use Rattle.std.proofs.Common.{take}
use Rattle.checks.specs.Inner.Places.{HasSizes}
use Rattle.checks.proofs.places.sizes_of.Given as goal

abbrev pub invariant-loop-row : goal.invariant-loop-row
invariant-loop-row l = HasSizes (take l.row-index l.versions) l.sizes
