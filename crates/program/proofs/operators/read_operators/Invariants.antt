use Rattle.std.proofs.Common.{List, [], ◌++◌, Option, length}
use Rattle.serve.specs.declared.operators.Operator.{Operator}
use Rattle.program.specs.Operators.{AreOperators}
use Rattle.program.specs.declared.line_faults.LineFault.{LineFault}
use Rattle.program.proofs.operators.read_operators.Given as goal

-- what the rest turns out to be follows the operators so far
abbrev pub invariant-lines : goal.invariant-lines
invariant-lines l = (more : List Operator) (fault : Option LineFault) → AreOperators l.operators l.rest more fault → AreOperators [] l.bytes (l.operators ++ more) fault

abbrev pub decreases-lines : goal.decreases-lines
decreases-lines l = length l.rest
