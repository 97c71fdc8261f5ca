use Rattle.std.proofs.Common.{◌≡◌, Some, None, rules}
use Rattle.program.specs.Batches.{line_and_rest}
use Rattle.program.proofs.BatchLemmas.{fault_ends, lines_end, no_line}
use Rattle.program.proofs.batches.read_batch.Goals as goal

pub returns-in-Err-Fault : goal.returns-in-Err-Fault
returns-in-Err-Fault c =
    let parts : line_and_rest c.lines.rest.now ≡ Some (c.in-Some.line.now, c.in-Some.left.now) = search rules in
    rw c.in-Err-Fault.fault-is (fault_ends c.args.bytes.now c.lines.lines.items c.lines.rest.now c.in-Some.line.now c.in-Some.left.now c.in-Err-Fault.field-0 c.in-Err-Fault.fault c.lines.invariant parts c.in-Err-Fault.ensures.why c.in-Err-Fault.field-0-is)

pub returns : goal.returns
returns c =
    let none : line_and_rest c.lines.rest.now ≡ None = search rules in
    lines_end c.args.bytes.now c.lines.lines.items c.lines.rest.now None c.lines.invariant (no_line c.lines.rest.now none)
