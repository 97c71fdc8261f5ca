use Rattle.std.proofs.Common.{Bool, inl, inr, subst}
use Rattle.program.specs.declared.exits.Exit.TheVariants.{Down}
use Rattle.program.specs.declared.environment.Opening.TheVariants.{Read}
use Rattle.program.specs.Inner.Outcomes.{ChecksFirst}
use Rattle.program.specs.Outcomes.{error_stream}
use Rattle.program.proofs.OutcomeLemmas.{said_behind}
use Rattle.program.proofs.EnvironmentLemmas.{opens_sound, checks_file}
use Rattle.program.proofs.copying.open_sound.Goals as goal

pub returns-in-Err-clause-refused : goal.returns-in-Err-clause-refused
returns-in-Err-clause-refused g c = inl c.in-Err.ensures.refused

pub returns-then-check_first-clause-opened : goal.returns-then-check_first-clause-opened
returns-then-check_first-clause-opened g c =
    let err = g.E.ErrorStream.reported in
    let unchanged = subst (λ (is_sound : Bool). ChecksFirst g.K.Keep g.F.Files c.args.why c.in-Ok.store is_sound c.check_first.new.store (error_stream (err c.open_one.new.errors) (err c.check_first.new.errors))) c.if-check_first.true c.check_first.ensures in (
      opens_sound g.K.Keep g.F.Files c.args.path.now Read c.args.why c.args.files.now c.open_one.new.files c.in-Ok.store c.check_first.new.store (err c.args.errors.now) (err c.open_one.new.errors) (err c.check_first.new.errors) c.in-Ok.ensures.opened.0 unchanged,
      c.in-Ok.ensures.opened.1,
    )

pub returns-clause-refused : goal.returns-clause-refused
returns-clause-refused g c =
    let err = g.E.ErrorStream.reported in
    let out = g.O.Write.contents in
    let unchanged = subst (λ (is_sound : Bool). ChecksFirst g.K.Keep g.F.Files c.args.why c.in-Ok.store is_sound c.check_first.new.store (error_stream (err c.open_one.new.errors) (err c.check_first.new.errors))) c.if-check_first.false c.check_first.ensures in
    inr (
      checks_file g.K.Keep g.F.Files c.args.path.now Read c.args.why c.args.files.now c.open_one.new.files c.close_after.new.files c.in-Ok.store c.check_first.new.store
          (err c.args.errors.now) (err c.open_one.new.errors) (err c.check_first.new.errors) (err c.close_after.new.errors)
          c.in-Ok.ensures.opened.0 unchanged c.close_after.ensures,
      said_behind Down c.say.result (out c.args.output.now) (out c.open_one.new.output) (out c.say.new.output) c.in-Ok.ensures.opened.1 c.say.ensures,
    )
