use Rattle.program.proofs.ErrorLemmas.{failed, took_more, took_part}
use Rattle.program.proofs.errors.write_text.Goals as goal

pub writing-preserved : goal.writing-preserved
writing-preserved g c =
    let done = c.writing.invariant in
    took_more (g.E.ErrorStream.reported c.args.errors.now) (g.E.ErrorStream.reported c.writing.errors) (g.E.ErrorStream.reported c.write.new.self) c.args.text.now done.0 c.writing.rest.now _ c.in_ok-count.count
    done.1 done.2 c.in_ok-count.ensures.bytes c.in_ok-count.ensures.failures c.split_at.ensures.back

pub returns-in_err-count : goal.returns-in_err-count
returns-in_err-count g c =
    let done = c.writing.invariant in
    failed (g.E.ErrorStream.reported c.args.errors.now) (g.E.ErrorStream.reported c.write.new.self) c.args.text.now c.from_residual.result c.from_residual.ensures.0
    (took_part (g.E.ErrorStream.reported c.args.errors.now) (g.E.ErrorStream.reported c.writing.errors) (g.E.ErrorStream.reported c.write.new.self) c.args.text.now done.0 c.writing.rest.now
    done.1 done.2 c.in_err-count.ensures.bytes c.in_err-count.ensures.failures)
