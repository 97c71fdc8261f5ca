use Rattle.program.specs.Errors.{version_line}
use Rattle.program.proofs.ErrorLemmas.{reported_of}
use Rattle.program.proofs.errors.report_version.Goals as goal

pub returns : goal.returns
returns g c =
    let text = version_line c.args.version c.args.end.now in
    reported_of (g.E.ErrorStream.reported c.args.errors.now) (g.E.ErrorStream.reported c.send_on.new.errors) text c.send_on.result (c.send_on.ensures (g.E.ErrorStream.reported c.args.errors.now) text c.note_version-written.ensures)
