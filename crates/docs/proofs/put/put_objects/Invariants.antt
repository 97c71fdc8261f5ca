use Rattle.std.proofs.Common.{drop}
use Rattle.docs.specs.Bodies.{objects}
use Rattle.docs.specs.Inner.Put.{PutsItems}
use Rattle.docs.proofs.put.put_objects.Given as goal

-- the rows so far are put, and the others are left
abbrev pub invariant-loop-row : goal.invariant-loop-row
invariant-loop-row g l = PutsItems l.fn.writer l.writer (objects g.T.Shown.members l.rows) (objects g.T.Shown.members (drop l.row-index l.rows))
