use Rattle.std.proofs.Common.{take}
use Rattle.checks.specs.Inner.Groups.{AreGrouped}
use Rattle.checks.proofs.groups.group.Given as goal

abbrev pub invariant-loop-row : goal.invariant-loop-row
invariant-loop-row g l = AreGrouped (take l.row-index l.rows) l.groups
