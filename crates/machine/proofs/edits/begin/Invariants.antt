use Rattle.std.proofs.Common.{◌≡◌, ◌++◌, map, take, drop}
use Rattle.machine.specs.Settling.{begun}
use Rattle.machine.proofs.edits.begin.Given as goal

-- the runs so far are as they are to be, the others as they were
abbrev pub invariant-loop-run : goal.invariant-loop-run
invariant-loop-run l = l.run-items ≡ map (begun l.n) (take l.run-index l.fn.runs) ++ drop l.run-index l.fn.runs
