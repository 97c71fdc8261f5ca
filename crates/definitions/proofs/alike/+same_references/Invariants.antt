use Rattle.std.proofs.Common.{length}
use Rattle.definitions.proofs.alike.+same_references.Given as goal

abbrev pub decreases-same_references : goal.decreases-same_references
decreases-same_references l = length l.a.now
