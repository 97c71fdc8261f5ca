use Rattle.std.proofs.Common.{◌≡◌, ◌++◌, map, take, drop}
use Rattle.machine.specs.Rules.{reported}
use Rattle.machine.proofs.edits.record.Given as goal

-- the runs so far are as they are to be, the others as they were
abbrev pub invariant-loop-run : goal.invariant-loop-run
invariant-loop-run l = l.run-items ≡ map (reported l.n l.action l.status) (take l.run-index l.fn.runs) ++ drop l.run-index l.fn.runs
