use Rattle.program.specs.Batches.{bad_text}
use Rattle.program.proofs.ErrorLemmas.{reported_of}
use Rattle.program.proofs.errors.report_bad_line.Goals as goal

pub returns : goal.returns
returns g c =
    let text = bad_text c.args.line c.args.fault in
    reported_of (g.E.ErrorStream.reported c.args.errors.now) (g.E.ErrorStream.reported c.send_on.new.errors) text c.send_on.result (c.send_on.ensures (g.E.ErrorStream.reported c.args.errors.now) text c.note_bad_line-written.ensures)
