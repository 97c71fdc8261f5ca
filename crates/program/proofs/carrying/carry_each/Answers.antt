use Rattle.std.proofs.Common.{◌≡◌, ◌≢◌, ℕ, suc, ◌+◌, List, drop, refl, sym, subst, inl, inr, arith, rules}
use Rattle.std.proofs.lemmas.List.{drop_all}
use Rattle.program.specs.declared.batches.BatchLine.{BatchLine}
use Rattle.program.specs.Outcomes.{CarriesLine, CarriesEach}
use Rattle.program.specs.declared.exits.Exit.{Exit}
use Rattle.program.specs.declared.exits.Exit.TheVariants.{Done}
use Rattle.program.proofs.BatchLemmas.{carries_left}
use Rattle.program.proofs.carrying.carry_each.Goals as goal

pub loop-line_index-init : goal.loop-line_index-init
loop-line_index-init g c = λ new e out err carries. carries

pub loop-line_index-preserved : goal.loop-line_index-preserved
loop-line_index-preserved g c = λ new e out err carries.
    let contents = g.O.Write.contents in
    let reported = g.E.ErrorStream.reported in
    let one = c.carry_line-exit in
    let done : one.result ≡ Done = search rules in
    let next : suc (c.loop-line_index.line_index + 1) ≡ (c.loop-line_index.line_index + 1) + 1 = omega arith in
    let first = subst (λ (x : Exit). CarriesLine g.K.Keep g.F.Files c.index-lines-line_index.result c.loop-line_index.service.keep one.new.service.keep x (contents c.loop-line_index.output) (contents one.new.output) (reported c.loop-line_index.errors) (reported one.new.errors)) done one.ensures.carries in
    let rest = subst (λ (n : ℕ). CarriesEach g.K.Keep g.F.Files (drop (c.loop-line_index.line_index + 1) c.args.lines.now) n one.new.service.keep new e (contents one.new.output) out (reported one.new.errors) err) (sym next) carries in
    c.loop-line_index.invariant new e out err
    (carries_left g.K.Keep g.F.Files c.args.lines.now c.loop-line_index.line_index c.index-lines-line_index.result (c.loop-line_index.line_index + 1) c.loop-line_index.service.keep new e (contents c.loop-line_index.output) out (reported c.loop-line_index.errors) err c.loop-line_index-test.true c.index-lines-line_index.is
    (inl (one.new.service.keep, contents one.new.output, reported one.new.errors, first, rest)))

pub returns-then-ne-clause-ends : goal.returns-then-ne-clause-ends
returns-then-ne-clause-ends g c = c.carry_line-exit.ensures.ends

pub returns-then-ne-clause-each : goal.returns-then-ne-clause-each
returns-then-ne-clause-each g c =
    let contents = g.O.Write.contents in
    let reported = g.E.ErrorStream.reported in
    let one = c.carry_line-exit in
    let apart : one.result ≢ Done = search rules in
    c.loop-line_index.invariant one.new.service.keep one.result (contents one.new.output) (reported c.report_at.new.errors)
    (carries_left g.K.Keep g.F.Files c.args.lines.now c.loop-line_index.line_index c.index-lines-line_index.result (c.loop-line_index.line_index + 1) c.loop-line_index.service.keep one.new.service.keep one.result (contents c.loop-line_index.output) (contents one.new.output)
    (reported c.loop-line_index.errors) (reported c.report_at.new.errors) c.loop-line_index-test.true c.index-lines-line_index.is
    (inr (apart, reported one.new.errors, one.ensures.carries, c.report_at.ensures)))

pub returns-clause-each : goal.returns-clause-each
returns-clause-each g c =
    let contents = g.O.Write.contents in
    let reported = g.E.ErrorStream.reported in
    c.loop-line_index.invariant c.loop-line_index.service.keep Done (contents c.loop-line_index.output) (reported c.loop-line_index.errors)
    (subst (λ (cs : List BatchLine). CarriesEach g.K.Keep g.F.Files cs (c.loop-line_index.line_index + 1) c.loop-line_index.service.keep c.loop-line_index.service.keep Done (contents c.loop-line_index.output) (contents c.loop-line_index.output) (reported c.loop-line_index.errors) (reported c.loop-line_index.errors))
    (sym (drop_all c.loop-line_index.line_index c.args.lines.now (search rules))) (refl, refl, refl, refl))
