use Rattle.std.proofs.Common.{◌≡◌, length}
use Rattle.wire.specs.Heads.{feeds_of}
use Rattle.wire.proofs.heads.feeds.Given as goal

abbrev pub invariant-breaks : goal.invariant-breaks
invariant-breaks l = feeds_of l.head ≡ feeds_of l.rest

abbrev pub decreases-breaks : goal.decreases-breaks
decreases-breaks l = length l.rest
