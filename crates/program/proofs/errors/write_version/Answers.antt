use Rattle.std.proofs.Common.{◌≡◌, decimal, rules}
use Rattle.program.proofs.ErrorLemmas.{wrote_first, wrote_then, reported_same}
use Rattle.program.proofs.errors.write_version.Goals as goal

pub returns : goal.returns
returns g c =
    let mid = g.E.ErrorStream.reported c.write_text.new.errors in
    let end : c.args.end.now ≡ c.as_bytes-2.result.now = search rules in
    wrote_then (g.E.ErrorStream.reported c.args.errors.now) mid (g.E.ErrorStream.reported c.write_text-2.new.errors)
    c.as_bytes.result.now (decimal c.args.version) c.args.end.now c.write_text-2.result (search rules) c.in_ok-write_text.ensures
    (reported_same mid (g.E.ErrorStream.reported c.write_text-2.new.errors) c.args.end.now c.as_bytes-2.result.now c.write_text-2.result end c.write_text-2.ensures)

pub returns-in_err-write_text : goal.returns-in_err-write_text
returns-in_err-write_text g c = wrote_first (g.E.ErrorStream.reported c.args.errors.now) (g.E.ErrorStream.reported c.write_text.new.errors) c.as_bytes.result.now (decimal c.args.version) c.args.end.now c.from_residual.result c.from_residual.ensures.0 (search rules) c.in_err-write_text.ensures
