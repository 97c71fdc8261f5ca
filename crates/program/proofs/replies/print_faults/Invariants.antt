use Rattle.std.proofs.Common.{take}
use Rattle.std.specs.Io.KnownBytes.{Appends}
use Rattle.program.specs.Replies.{fault_lines}
use Rattle.program.proofs.replies.print_faults.Given as goal

-- the lines of the faults so far have been written
abbrev pub invariant-loop-fault : goal.invariant-loop-fault
invariant-loop-fault g l = Appends (g.O.Write.contents l.initial.output) (g.O.Write.contents l.output) (fault_lines (take l.fault-index l.faults))
