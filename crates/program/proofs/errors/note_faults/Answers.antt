use Rattle.std.proofs.Common.{rules}
use Rattle.program.specs.Errors.{cause_line}
use Rattle.program.specs.Replies.{fault_lines}
use Rattle.program.proofs.ErrorLemmas.{wrote_first, wrote_then}
use Rattle.program.proofs.errors.note_faults.Goals as goal

pub returns : goal.returns
returns g c = wrote_then (g.E.ErrorStream.reported c.args.errors.now) (g.E.ErrorStream.reported c.write_text.new.errors) (g.E.ErrorStream.reported c.write_faults.new.errors)
    c.as_bytes.result.now (cause_line c.args.cause) (fault_lines c.args.faults.now) c.write_faults.result (search rules) c.in_ok-write_text.ensures c.write_faults.ensures

pub returns-in_err-write_text : goal.returns-in_err-write_text
returns-in_err-write_text g c = wrote_first (g.E.ErrorStream.reported c.args.errors.now) (g.E.ErrorStream.reported c.write_text.new.errors) c.as_bytes.result.now (cause_line c.args.cause) (fault_lines c.args.faults.now) c.from_residual.result c.from_residual.ensures.0 (search rules) c.in_err-write_text.ensures
