use Rattle.std.proofs.Common.{List, ℕ, Option, rules, subst, inl, inr}
use Rattle.program.specs.Outcomes.{RefusesToOpen, stream, error_stream}
use Rattle.program.proofs.CopyLemmas.{refuses_second}
use Rattle.program.proofs.copying.open_both.Goals as goal

pub returns-in-Err-open_one-clause-refused : goal.returns-in-Err-open_one-clause-refused
returns-in-Err-open_one-clause-refused g c =
    let out = g.O.Write.contents in
    let err = g.E.ErrorStream.reported in
    let second = subst (λ (before : Option (List ℕ)). RefusesToOpen g.K.Keep g.F.Files c.args.to.now c.args.opening c.open_sound.new.files c.open_one.new.files c.in-Err-open_one.exit
    (stream before (out c.open_one.new.output)) (error_stream (err c.open_sound.new.errors) (err c.open_one.new.errors))) c.in-Ok.ensures.opened.1 c.in-Err-open_one.ensures.refused in
    inr (inr (refuses_second g.K.Keep g.F.Files c.args.from.now c.args.to.now c.args.opening c.args.files.now c.open_sound.new.files c.open_one.new.files c.close_after.new.files c.in-Ok.source c.in-Err-open_one.exit
    (out c.args.output.now) (out c.open_one.new.output) (err c.args.errors.now) (err c.open_sound.new.errors) (err c.open_one.new.errors) (err c.close_after.new.errors)
    (search rules) c.in-Ok.ensures.opened.0 second c.close_after.ensures))

pub returns-in-Err-clause-refused : goal.returns-in-Err-clause-refused
returns-in-Err-clause-refused g c = inr (inl (search rules, c.in-Err.ensures.refused))
