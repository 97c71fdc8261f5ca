use Rattle.std.proofs.Common.{length}
use Rattle.definitions.proofs.own.+refer_alike.Given as goal

abbrev pub decreases-refer_alike : goal.decreases-refer_alike
decreases-refer_alike l = length l.tables.now
