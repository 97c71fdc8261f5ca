use Rattle.checks.proofs.Outside.{List, take, PageHead}
use Rattle.checks.specs.Inner.Places.{HasPageSizes, HasPieces}
use Rattle.checks.proofs.places.pieces_of.Given as goal

abbrev pub invariant-loop-row : goal.invariant-loop-row
invariant-loop-row l = (heads : List PageHead) → HasPageSizes heads l.sizes → HasPieces heads (take l.row-index l.vpages) l.pieces
