use Rattle.std.proofs.Common.{codes, refl, ◌++◌, ◌∷◌, []}
use Rattle.program.proofs.ErrorLemmas.{wrote_first, wrote_then}
use Rattle.program.proofs.errors.write_message.Goals as goal

pub returns : goal.returns
returns g c = wrote_then (g.E.ErrorStream.reported c.args.errors.now) (g.E.ErrorStream.reported c.write_text.new.errors) (g.E.ErrorStream.reported c.write_ended.new.errors)
    (codes ": ") (codes ": ") (c.args.text.now ++ 10 ∷ []) c.write_ended.result refl c.in_ok-write_text.ensures c.write_ended.ensures

pub returns-in_err-write_text : goal.returns-in_err-write_text
returns-in_err-write_text g c = wrote_first (g.E.ErrorStream.reported c.args.errors.now) (g.E.ErrorStream.reported c.write_text.new.errors) (codes ": ") (codes ": ") (c.args.text.now ++ 10 ∷ []) c.from_residual.result c.from_residual.ensures.0 refl c.in_err-write_text.ensures
