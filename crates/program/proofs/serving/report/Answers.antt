use Rattle.std.proofs.Common.{◌++◌}
use Rattle.program.specs.Errors.{down_line, fault_line}
use Rattle.program.proofs.ErrorLemmas.{reported_of}
use Rattle.program.proofs.serving.report.Goals as goal

pub returns : goal.returns
returns g c =
    let text = down_line c.args.connection c.args.is_down ++ fault_line c.args.connection c.args.ended in
    reported_of (g.E.ErrorStream.reported c.args.errors.now) (g.E.ErrorStream.reported c.send_on.new.errors) text c.send_on.result (c.send_on.ensures (g.E.ErrorStream.reported c.args.errors.now) text c.write_lines-written.ensures)
