use Rattle.std.proofs.Common.{rules}
use Rattle.program.proofs.ErrorLemmas.{reported_of, reported_same}
use Rattle.program.proofs.errors.note.Goals as goal

pub returns-clause-by : goal.returns-clause-by
returns-clause-by g c =
    let before = g.E.ErrorStream.reported c.args.errors.now in
    reported_same before (g.E.ErrorStream.reported c.send_on.new.errors) c.args.text.now c.as_bytes.result.now c.send_on.result (search rules) (c.send_on.ensures before c.as_bytes.result.now c.write_text-written.ensures)

pub returns-clause-reported : goal.returns-clause-reported
returns-clause-reported g c = reported_of (g.E.ErrorStream.reported c.args.errors.now) (g.E.ErrorStream.reported c.send_on.new.errors) c.args.text.now c.send_on.result (returns-clause-by g c)
