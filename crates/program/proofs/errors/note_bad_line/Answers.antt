use Rattle.std.proofs.Common.{refl, rules}
use Rattle.program.specs.Batches.{bad_line_text}
use Rattle.program.specs.LineFaults.{fault_text}
use Rattle.program.proofs.ErrorLemmas.{reported_same, wrote_first, wrote_then}
use Rattle.program.proofs.errors.note_bad_line.Goals as goal

pub returns : goal.returns
returns g c =
    let err = g.E.ErrorStream.reported in
    let mid = err c.note_at.new.errors in
    let new = err c.write_text.new.errors in
    wrote_then (err c.args.errors.now) mid new (bad_line_text c.args.line) (bad_line_text c.args.line) (fault_text c.args.fault) c.write_text.result refl c.in_ok-note_at.ensures
    (reported_same mid new (fault_text c.args.fault) c.as_bytes.result.now c.write_text.result (search rules) c.write_text.ensures)

pub returns-in_err-note_at : goal.returns-in_err-note_at
returns-in_err-note_at g c = wrote_first (g.E.ErrorStream.reported c.args.errors.now) (g.E.ErrorStream.reported c.note_at.new.errors) (bad_line_text c.args.line) (bad_line_text c.args.line) (fault_text c.args.fault) c.from_residual.result c.from_residual.ensures.0 refl c.in_err-note_at.ensures
