use Rattle.std.proofs.Common.{◌≡◌, map, take}
use Rattle.fakes.proofs.files.lines_of.Given as goal

-- the lines so far are those of the faults so far
abbrev pub invariant-loop-fault : goal.invariant-loop-fault
invariant-loop-fault l = l.lines ≡ map (λ fault. fault.now) (take l.fault-index l.faults)
