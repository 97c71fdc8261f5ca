use Rattle.std.proofs.Common.{refl}
use Rattle.program.specs.Errors.{down_line, fault_line}
use Rattle.program.proofs.ErrorLemmas.{wrote_first, wrote_then}
use Rattle.program.proofs.serving.write_lines.Goals as goal

pub returns : goal.returns
returns g c =
    let first = down_line c.args.connection c.args.is_down in
    wrote_then (g.E.ErrorStream.reported c.args.errors.now) (g.E.ErrorStream.reported c.report_down.new.errors) (g.E.ErrorStream.reported c.report_fault.new.errors)
    first first (fault_line c.args.connection c.args.ended) c.report_fault.result refl c.in_ok-report_down.ensures c.report_fault.ensures

pub returns-in_err-report_down : goal.returns-in_err-report_down
returns-in_err-report_down g c =
    let first = down_line c.args.connection c.args.is_down in
    wrote_first (g.E.ErrorStream.reported c.args.errors.now) (g.E.ErrorStream.reported c.report_down.new.errors) first first (fault_line c.args.connection c.args.ended) c.from_residual.result c.from_residual.ensures.0 refl c.in_err-report_down.ensures
