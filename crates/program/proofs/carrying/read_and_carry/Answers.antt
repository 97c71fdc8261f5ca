use Rattle.std.proofs.Common.{◌≡◌, ℕ, ◌+◌, Some, inl, inr, length, refl, rules, subst}
use Rattle.program.specs.Batches.{bad_text}
use Rattle.program.specs.Outcomes.{stream, error_stream, AnswersBatch}
use Rattle.program.specs.Streams.{Reports}
use Rattle.program.specs.declared.exits.Exit.{Exit}
use Rattle.program.specs.declared.exits.Exit.TheVariants.{Usage}
use Rattle.program.proofs.BatchLemmas.{batch_known}
use Rattle.program.proofs.OutcomeLemmas.{said}
use Rattle.program.proofs.carrying.read_and_carry.Goals as goal

pub returns-in-Some-clause-line : goal.returns-in-Some-clause-line
returns-in-Some-clause-line g c =
    let out = g.O.Write.contents in
    let err = g.E.ErrorStream.reported in
    let input = g.I.Read.remaining c.args.input.now in
    let lines = c.in-Ok.batch.lines.items in
    let fault = c.in-Some.fault in
    let counted : c.len.result ≡ length lines = search rules in
    let reported = subst (λ (n : ℕ). Reports (err c.args.errors.now) (err c.report_bad_line.new.errors) (bad_text (n + 1) fault)) counted c.report_bad_line.ensures in
    said (λ (e : Exit). AnswersBatch input e (stream (out c.args.output.now) (out c.say.new.output)) (error_stream (err c.args.errors.now) (err c.report_bad_line.new.errors))) Usage c.say.result _ _
    (λ h. (h, lines, fault, batch_known input lines c.in-Ok.batch.fault (Some fault) c.in-Some.is c.in-Ok.ensures.lines, reported)) tt c.say.ensures

pub returns-in-Some-clause-carries : goal.returns-in-Some-clause-carries
returns-in-Some-clause-carries g c =
    let err = g.E.ErrorStream.reported in
    let input = g.I.Read.remaining c.args.input.now in
    let lines = c.in-Ok.batch.lines.items in
    let fault = c.in-Some.fault in
    let counted : c.len.result ≡ length lines = search rules in
    let reported = subst (λ (n : ℕ). Reports (err c.args.errors.now) (err c.report_bad_line.new.errors) (bad_text (n + 1) fault)) counted c.report_bad_line.ensures in
    inr (refl, inl (lines, fault, batch_known input lines c.in-Ok.batch.fault (Some fault) c.in-Some.is c.in-Ok.ensures.lines, c.say.ensures, reported))

pub returns-in_default-clause-input : goal.returns-in_default-clause-input
returns-in_default-clause-input g c = inr (c.refuse.ensures.said, c.refuse.ensures.why)
