use Rattle.std.proofs.Common.{length}
use Rattle.route.proofs.tokens.+unspaced.Given as goal

abbrev pub decreases-unspaced : goal.decreases-unspaced
decreases-unspaced l = length l.bytes.now
