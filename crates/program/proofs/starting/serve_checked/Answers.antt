use Rattle.std.proofs.Common.{Bool, inl, inr, refl, subst}
use Rattle.program.specs.declared.reasons.Cause.TheVariants.{Faults}
use Rattle.program.specs.Inner.Outcomes.{ChecksFirst}
use Rattle.program.specs.Outcomes.{error_stream}
use Rattle.program.specs.declared.exits.Exit.TheVariants.{Down}
use Rattle.program.specs.declared.environment.Opening.TheVariants.{Existing}
use Rattle.program.proofs.OutcomeLemmas.{refused_by, refused_serving, said_behind}
use Rattle.program.proofs.EnvironmentLemmas.{serves_checked, opens_sound, checks_file}
use Rattle.program.specs.Listening.{bound_site}
use Rattle.program.proofs.starting.serve_checked.Goals as goal

pub returns-in-Err-clause-line : goal.returns-in-Err-clause-line
returns-in-Err-clause-line g c = refused_serving _ c.args.terms.now.logs c.in-Err.exit _ _ (refused_by g.K.Keep g.F.Files c.args.db.now Existing c.args.files.now c.open_one.new.files c.in-Err.exit (g.O.Write.contents c.args.output.now) (g.O.Write.contents c.open_one.new.output) (g.E.ErrorStream.reported c.args.errors.now) (g.E.ErrorStream.reported c.open_one.new.errors) c.in-Err.ensures.refused)

pub returns-then-check_first-clause-serves : goal.returns-then-check_first-clause-serves
returns-then-check_first-clause-serves g c =
    let err = g.E.ErrorStream.reported in
    let out = g.O.Write.contents in
    let unchanged = subst (λ (is_sound : Bool). ChecksFirst g.K.Keep g.F.Files Faults c.in-Ok.keep is_sound c.check_first.new.store (error_stream (err c.open_one.new.errors) (err c.check_first.new.errors))) c.if-check_first.true c.check_first.ensures in
    inl (inl (serves_checked g.K.Keep g.F.Files g.N.Connections g.C.Clock g.N.Reader.Inlet g.N.Writer.Outlet
    c.args.db.now (bound_site c.args.bound) c.args.terms.now c.args.count c.args.files.now c.open_one.new.files c.serve_opened.new.files
    c.args.network.now c.serve_opened.new.network c.args.clock.now c.serve_opened.new.clock c.check_first.new.store c.serve_opened.result
    (out c.args.output.now) (out c.open_one.new.output) (out c.serve_opened.new.output)
    (err c.args.errors.now) (err c.check_first.new.errors) (err c.serve_opened.new.errors)
    (opens_sound g.K.Keep g.F.Files c.args.db.now Existing Faults c.args.files.now c.open_one.new.files c.in-Ok.keep c.check_first.new.store (err c.args.errors.now) (err c.open_one.new.errors) (err c.check_first.new.errors) c.in-Ok.ensures.opened.0 unchanged)
    c.in-Ok.ensures.opened.1 c.serve_opened.ensures.serves))

pub returns-clause-serves : goal.returns-clause-serves
returns-clause-serves g c =
    let err = g.E.ErrorStream.reported in
    let out = g.O.Write.contents in
    let unchanged = subst (λ (is_sound : Bool). ChecksFirst g.K.Keep g.F.Files Faults c.in-Ok.keep is_sound c.check_first.new.store (error_stream (err c.open_one.new.errors) (err c.check_first.new.errors))) c.if-check_first.false c.check_first.ensures in
    inl (inr (
      (
        checks_file g.K.Keep g.F.Files c.args.db.now Existing Faults c.args.files.now c.open_one.new.files c.close_after.new.files c.in-Ok.keep c.check_first.new.store
            (err c.args.errors.now) (err c.open_one.new.errors) (err c.check_first.new.errors) (err c.close_after.new.errors)
            c.in-Ok.ensures.opened.0 unchanged c.close_after.ensures,
        said_behind Down c.say.result (out c.args.output.now) (out c.open_one.new.output) (out c.say.new.output) c.in-Ok.ensures.opened.1 c.say.ensures,
      ),
      (refl {a = c.args.network.now}, refl {a = c.args.clock.now}),
    ))
