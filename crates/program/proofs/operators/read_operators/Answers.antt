use Rattle.std.proofs.Common.{◌≡◌, Some, None, rules}
use Rattle.program.specs.Batches.{line_and_rest}
use Rattle.program.proofs.BatchLemmas.{no_line}
use Rattle.program.proofs.OperatorLemmas.{operator_fault, no_operator}
use Rattle.program.proofs.operators.read_operators.Goals as goal

pub returns-in-Err-Fault : goal.returns-in-Err-Fault
returns-in-Err-Fault c =
    let parts : line_and_rest c.lines.rest.now ≡ Some (c.in-Some.line.now, c.in-Some.left.now) = search rules in
    rw c.in-Err-Fault.fault-is (operator_fault c.args.bytes.now c.lines.operators c.as_slice.result.now c.lines.rest.now c.in-Some.line.now c.in-Some.left.now c.in-Err-Fault.field-0 c.in-Err-Fault.fault c.lines.invariant parts c.as_slice.ensures c.in-Err-Fault.ensures c.in-Err-Fault.field-0-is)

pub returns : goal.returns
returns c =
    let none : line_and_rest c.lines.rest.now ≡ None = search rules in
    no_operator c.args.bytes.now c.lines.operators c.lines.rest.now c.end_fault-fault.result c.lines.invariant (no_line c.lines.rest.now none) c.end_fault-fault.ensures
