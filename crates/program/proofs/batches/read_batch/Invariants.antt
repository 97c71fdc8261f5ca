use Rattle.std.proofs.Common.{List, ◌++◌, Option, length}
use Rattle.program.specs.Batches.{AreLines}
use Rattle.program.specs.declared.batches.BatchLine.{BatchLine}
use Rattle.program.specs.declared.line_faults.LineFault.{LineFault}
use Rattle.program.proofs.batches.read_batch.Given as goal

-- what the rest turns out to be follows the lines so far
abbrev pub invariant-lines : goal.invariant-lines
invariant-lines l = (more : List BatchLine) (fault : Option LineFault) → AreLines l.rest more fault → AreLines l.bytes (l.lines.items ++ more) fault

abbrev pub decreases-lines : goal.decreases-lines
decreases-lines l = length l.rest
