use Rattle.std.proofs.Common.{length}
use Rattle.definitions.proofs.alike.+same_roots.Given as goal

abbrev pub decreases-same_roots : goal.decreases-same_roots
decreases-same_roots l = length l.a.now
