use Rattle.std.proofs.Common.{◌++◌}
use Rattle.program.specs.Errors.{cause_line}
use Rattle.program.specs.Replies.{fault_lines}
use Rattle.program.proofs.ErrorLemmas.{reported_of}
use Rattle.program.proofs.errors.report_faults.Goals as goal

pub returns : goal.returns
returns g c =
    let text = cause_line c.args.cause ++ fault_lines c.args.faults.now in
    reported_of (g.E.ErrorStream.reported c.args.errors.now) (g.E.ErrorStream.reported c.send_on.new.errors) text c.send_on.result (c.send_on.ensures (g.E.ErrorStream.reported c.args.errors.now) text c.note_faults-written.ensures)
