use Rattle.std.proofs.Common.{inl, inr, subst}
use Rattle.program.specs.declared.environment.Opening.{Opening}
use Rattle.program.specs.Outcomes.{Opens, RefusesToOpen, stream, error_stream}
use Rattle.program.proofs.OutcomeLemmas.{refused_by}
use Rattle.program.proofs.BatchLemmas.{carries_lines, refusal_ends}
use Rattle.program.proofs.carrying.carry_lines.Goals as goal

pub returns-in-Err-clause-ends : goal.returns-in-Err-clause-ends
returns-in-Err-clause-ends g c = refusal_ends c.in-Err.exit _ _ (refused_by g.K.Keep g.F.Files c.args.db.now c.opening_of.result c.args.files.now c.open_one.new.files c.in-Err.exit (g.O.Write.contents c.args.output.now) (g.O.Write.contents c.open_one.new.output) (g.E.ErrorStream.reported c.args.errors.now) (g.E.ErrorStream.reported c.open_one.new.errors) c.in-Err.ensures.refused)

pub returns-in-Err-clause-carries : goal.returns-in-Err-clause-carries
returns-in-Err-clause-carries g c =
    let out = g.O.Write.contents in
    let err = g.E.ErrorStream.reported in
    inr (subst (λ (opening : Opening). RefusesToOpen g.K.Keep g.F.Files c.args.db.now opening c.args.files.now c.open_one.new.files c.in-Err.exit
    (stream (out c.args.output.now) (out c.open_one.new.output)) (error_stream (err c.args.errors.now) (err c.open_one.new.errors))) c.opening_of.ensures c.in-Err.ensures.refused)

pub returns-clause-carries : goal.returns-clause-carries
returns-clause-carries g c =
    let out = g.O.Write.contents in
    let err = g.E.ErrorStream.reported in
    let done = c.carry_each-exit in
    inl (carries_lines g.K.Keep g.F.Files c.args.db.now c.args.first.now c.args.lines.now c.args.files.now c.open_one.new.files c.close_after.new.files
    c.in-Ok.store c.new-service.result.keep done.new.service.keep c.into_keep.result done.result
    (out c.args.output.now) (out c.open_one.new.output) (out done.new.output) (err c.args.errors.now) (err c.open_one.new.errors) (err done.new.errors) (err c.close_after.new.errors)
    (subst (λ (opening : Opening). Opens g.K.Keep g.F.Files c.args.db.now opening c.args.files.now c.open_one.new.files c.in-Ok.store (error_stream (err c.args.errors.now) (err c.open_one.new.errors))) c.opening_of.ensures c.in-Ok.ensures.opened.0)
    c.in-Ok.ensures.opened.1 c.new-service.ensures.keep c.into_keep.ensures done.ensures.each c.close_after.ensures)
