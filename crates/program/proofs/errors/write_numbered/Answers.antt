use Rattle.std.proofs.Common.{codes, decimal, rules, ◌++◌, ◌∷◌, []}
use Rattle.program.proofs.ErrorLemmas.{behind, reported_same, wrote_first, wrote_then}
use Rattle.program.proofs.errors.write_numbered.Goals as goal

pub returns : goal.returns
returns g c = reported_same (g.E.ErrorStream.reported c.args.errors.now) (g.E.ErrorStream.reported c.write_message.new.errors)
    (decimal c.args.connection ++ codes ": " ++ c.args.text.now ++ 10 ∷ []) (decimal c.args.connection ++ (codes ": " ++ c.args.text.now ++ 10 ∷ [])) c.write_message.result
    (behind (decimal c.args.connection) (codes ": ") c.args.text.now (10 ∷ []))
    (wrote_then (g.E.ErrorStream.reported c.args.errors.now) (g.E.ErrorStream.reported c.write_text.new.errors) (g.E.ErrorStream.reported c.write_message.new.errors)
    c.as_bytes.result.now (decimal c.args.connection) (codes ": " ++ c.args.text.now ++ 10 ∷ []) c.write_message.result (search rules) c.in_ok-write_text.ensures c.write_message.ensures)

pub returns-in_err-write_text : goal.returns-in_err-write_text
returns-in_err-write_text g c = reported_same (g.E.ErrorStream.reported c.args.errors.now) (g.E.ErrorStream.reported c.write_text.new.errors)
    (decimal c.args.connection ++ codes ": " ++ c.args.text.now ++ 10 ∷ []) (decimal c.args.connection ++ (codes ": " ++ c.args.text.now ++ 10 ∷ [])) c.from_residual.result
    (behind (decimal c.args.connection) (codes ": ") c.args.text.now (10 ∷ []))
    (wrote_first (g.E.ErrorStream.reported c.args.errors.now) (g.E.ErrorStream.reported c.write_text.new.errors) c.as_bytes.result.now (decimal c.args.connection) (codes ": " ++ c.args.text.now ++ 10 ∷ []) c.from_residual.result c.from_residual.ensures.0 (search rules) c.in_err-write_text.ensures)
