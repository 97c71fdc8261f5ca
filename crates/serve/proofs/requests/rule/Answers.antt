use Rattle.serve.proofs.RecordLemmas.{rule_foreseen}
use Rattle.std.proofs.Common.{◌∙◌}
use Rattle.serve.proofs.LogLemmas.{rule_traced}
use Rattle.serve.proofs.requests.rule.Goals as goal

pub returns-in-Ok-clause-ok : goal.returns-in-Ok-clause-ok
returns-in-Ok-clause-ok g c = λ clean sound.
    let before : g.K.Keep.clean c.unit.new.self = c.answer_decision.ensures.unchanged.so_far clean in
    let kept : g.K.Keep.sound c.unit.new.self = c.unit.ensures.unchanged.kept before sound in
    let first : g.K.Keep.clean c.args.keep.now = c.unit.ensures.unchanged.so_far before in
    λ some range. rule_foreseen (g.K.Keep.rows c.args.keep.now c.args.org.now) (g.K.Keep.rows c.unit.new.self c.args.org.now) c.args.org.now c.args.ws c.args.act.now c.args.at
    c.in_ok-unit.unit c.in_ok-decision.decision c.in-Ok.reply c.in-Ok.change (c.unit.ensures.unchanged.same before c.args.org.now) (λ o e. c.records_are_lawful.ensures first sound c.args.org.now o e) (c.in_ok-unit.ensures.ok before sound) c.in_ok-decision.ensures (c.in-Ok.ensures.ok clean kept)
    (rw (← c.seconds.ensures.value) c.seconds.ensures.most) some range

pub returns-in-Ok-clause-traces : goal.returns-in-Ok-clause-traces
returns-in-Ok-clause-traces g c = λ clean sound.
    let before : g.K.Keep.clean c.unit.new.self = c.answer_decision.ensures.unchanged.so_far clean in
    let first : g.K.Keep.clean c.args.keep.now = c.unit.ensures.unchanged.so_far before in
    λ some. c.trace_by-trace.ensures ∙ rule_traced (g.K.Keep.rows c.args.keep.now c.args.org.now) c.args.ws c.args.act.now c.args.at
    c.in_ok-unit.unit c.in_ok-decision.decision (λ o e. c.records_are_lawful.ensures first sound c.args.org.now o e) (c.in_ok-unit.ensures.ok before sound) c.in_ok-decision.ensures some
