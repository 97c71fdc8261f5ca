use Rattle.std.proofs.Common.{◌++◌, ◌∷◌, []}
use Rattle.program.specs.Replies.{fault_lines}
use Rattle.program.proofs.ErrorLemmas.{failed, lines_more, lines_broken, all_behind}
use Rattle.program.proofs.errors.write_faults.Goals as goal

pub loop-fault-preserved : goal.loop-fault-preserved
loop-fault-preserved g c =
    let so_far = c.loop-fault.invariant in (
      so_far.0 ++ (c.as_str.result.now ++ 10 ∷ []),
      lines_more c.args.faults.now c.loop-fault.fault-index c.fault-item.result c.as_str.result.now so_far.0 c.loop-fault-test.true c.fault-item.is c.as_str.ensures so_far.1,
      all_behind _ _ _ so_far.0 (c.as_str.result.now ++ 10 ∷ []) so_far.2 c.in_ok-write_ended.ensures,
    )

pub returns-in_err-write_ended : goal.returns-in_err-write_ended
returns-in_err-write_ended g c =
    let so_far = c.loop-fault.invariant in
    failed (g.E.ErrorStream.reported c.args.errors.now) (g.E.ErrorStream.reported c.write_ended.new.errors) (fault_lines c.args.faults.now) c.from_residual.result c.from_residual.ensures.0
    (lines_broken (g.E.ErrorStream.reported c.args.errors.now) (g.E.ErrorStream.reported c.loop-fault.errors) (g.E.ErrorStream.reported c.write_ended.new.errors)
    c.args.faults.now c.loop-fault.fault-index c.fault-item.result c.as_str.result.now so_far.0 c.loop-fault-test.true c.fault-item.is c.as_str.ensures so_far.1 so_far.2 c.in_err-write_ended.ensures)
