use Rattle.program.specs.Errors.{memory_line}
use Rattle.program.proofs.ErrorLemmas.{reported_of}
use Rattle.program.proofs.errors.report_memory.Goals as goal

pub returns : goal.returns
returns g c =
    let text = memory_line c.args.bytes in
    reported_of (g.E.ErrorStream.reported c.args.errors.now) (g.E.ErrorStream.reported c.send_on.new.errors) text c.send_on.result (c.send_on.ensures (g.E.ErrorStream.reported c.args.errors.now) text c.note_memory-written.ensures)
