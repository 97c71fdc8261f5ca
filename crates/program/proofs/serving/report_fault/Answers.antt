use Rattle.program.proofs.ErrorLemmas.{reported_fault}
use Rattle.program.proofs.serving.report_fault.Goals as goal

pub returns-in-Err : goal.returns-in-Err
returns-in-Err g c = reported_fault (g.E.ErrorStream.reported c.args.errors.now) (g.E.ErrorStream.reported c.write_line.new.errors)
    c.args.connection c.args.ended c.in-Err.fault c.fault_text.result.now c.write_line.result c.in-Err.is c.fault_text.ensures c.write_line.ensures
