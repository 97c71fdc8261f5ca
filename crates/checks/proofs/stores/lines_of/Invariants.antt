use Rattle.std.proofs.Common.{◌≡◌, map, take}
use Rattle.checks.specs.Lines.{fault_line}
use Rattle.checks.proofs.stores.lines_of.Given as goal

abbrev pub invariant-loop-fault : goal.invariant-loop-fault
invariant-loop-fault l = l.lines.items ≡ map fault_line (take l.fault-index l.faults)
