use Rattle.std.proofs.Common.{take}
use Rattle.checks.specs.Inner.Places.{HasPageSizes}
use Rattle.checks.proofs.places.page_sizes_of.Given as goal

abbrev pub invariant-loop-head : goal.invariant-loop-head
invariant-loop-head l = HasPageSizes (take l.head-index l.heads) l.sizes
