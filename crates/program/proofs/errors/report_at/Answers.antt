use Rattle.std.proofs.Common.{decimal, ◌++◌, ◌∷◌, []}
use Rattle.program.proofs.ErrorLemmas.{reported_of}
use Rattle.program.proofs.errors.report_at.Goals as goal

pub returns : goal.returns
returns g c =
    let text = c.args.mark.now ++ (decimal c.args.line ++ 10 ∷ []) in
    reported_of (g.E.ErrorStream.reported c.args.errors.now) (g.E.ErrorStream.reported c.send_on.new.errors) text c.send_on.result (c.send_on.ensures (g.E.ErrorStream.reported c.args.errors.now) text c.note_at-written.ensures)
