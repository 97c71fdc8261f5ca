use Rattle.std.proofs.Common.{◌-◌, length}
use Rattle.std.specs.Io.KnownBytes.{Consumes}
use Rattle.program.proofs.operators.read_input.Given as goal

-- what was read is what the input no longer has
abbrev pub invariant-reading : goal.invariant-reading
invariant-reading g l = Consumes (g.I.Read.remaining l.initial.input) (g.I.Read.remaining l.input) l.bytes.items

abbrev pub decreases-reading : goal.decreases-reading
decreases-reading g l = 65_537 - length l.bytes.items
