use Rattle.std.proofs.Common.{length}
use Rattle.definitions.proofs.own.+is_first.Given as goal

abbrev pub decreases-is_first : goal.decreases-is_first
decreases-is_first l = length l.tables.now
