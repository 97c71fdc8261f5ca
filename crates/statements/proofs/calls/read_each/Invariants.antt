use Rattle.statements.proofs.Outside.{take, AllZip}
use Rattle.statements.proofs.calls.read_each.Given as goal

abbrev pub invariant-loop-row : goal.invariant-loop-row
invariant-loop-row g l = AllZip g.T.Read.is_in (take l.row-index l.rows) l.read.items
