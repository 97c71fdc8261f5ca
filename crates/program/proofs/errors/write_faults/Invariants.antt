use Rattle.std.proofs.Common.{◌≡◌, ◌++◌, ℕ, List, drop}
use Rattle.program.specs.Replies.{fault_lines}
use Rattle.program.specs.Streams.{GetsAll}
use Rattle.program.proofs.errors.write_faults.Given as goal

-- a front was written, and what is left are the lines of the faults to come
abbrev pub invariant-loop-fault : goal.invariant-loop-fault
invariant-loop-fault g l = (front : List ℕ) × (fault_lines l.faults ≡ front ++ fault_lines (drop l.fault-index l.faults)) × GetsAll (g.E.ErrorStream.reported l.initial.errors) (g.E.ErrorStream.reported l.errors) front
