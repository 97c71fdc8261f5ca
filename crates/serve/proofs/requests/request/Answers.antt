use Rattle.serve.proofs.Outside.{Ok, Err, IsSome, Option, subst, sym, ◌≡◌, ap, ◌∙◌, IfErr-weaker, IfOk-weaker, Unavailable, Organization}
use Rattle.serve.specs.Logs.{id_spelt, traced}
use Rattle.serve.specs.Steps.{carried}
use Rattle.serve.specs.Inner.Prepared.{Foresees}
use Rattle.serve.proofs.RecordLemmas.{refused_then}
use Rattle.serve.proofs.LogLemmas.{ok_apart, err_apart, facts_same, with_known, carried_so_far, refused_so_far}
use Rattle.serve.proofs.requests.request.Goals as goal

pub returns-in-Ok-clause-ok : goal.returns-in-Ok-clause-ok
returns-in-Ok-clause-ok g c = λ clean sound.
    let org = c.args.asked.now.caller in
    let r = g.K.Keep.rows c.args.keep.now org in
    let before : g.K.Keep.clean c.checked.new.keep = c.carry.ensures.unchanged.so_far clean in
    let same : g.K.Keep.rows c.checked.new.keep org ≡ r = c.checked.ensures.unchanged.same before org in
    let some : IsSome (g.K.Keep.rows c.checked.new.keep org) = subst IsSome (sym same) (c.in-Ok.ensures.there before sound) in
    IfOk-weaker c.carry.result _ _
    (λ p foreseen.
    subst (λ answered. Foresees r org answered p.0 p.1) (c.in-Ok.ensures.ok before sound)
    (subst (λ (x : Option Organization). Foresees x org (carried org c.args.at x (Ok c.in-Ok.task)) p.0 p.1) same (foreseen some c.in-Ok.ensures.range)))
    (c.carry.ensures.ok clean (c.checked.ensures.unchanged.kept before sound))

pub returns-in-Err-clause-ok : goal.returns-in-Err-clause-ok
returns-in-Err-clause-ok g c = λ clean sound.
    let org = c.args.asked.now.caller in
    let r = g.K.Keep.rows c.args.keep.now org in
    refused_then c.in-Err.refusal r org _ c.refuse_request.result
    (λ apart. ap (carried org c.args.at r) (c.in-Err.ensures.ok clean sound apart)) c.refuse_request.ensures.known c.refuse_request.ensures.ok

pub returns-in-Ok-clause-facts : goal.returns-in-Ok-clause-facts
returns-in-Ok-clause-facts g c = λ clean sound.
    let org = c.args.asked.now.caller in
    let r = g.K.Keep.rows c.args.keep.now org in
    let before : g.K.Keep.clean c.checked.new.keep = c.carry.ensures.unchanged.so_far clean in
    let same : g.K.Keep.rows c.checked.new.keep org ≡ r = c.checked.ensures.unchanged.same before org in
    let some : IsSome (g.K.Keep.rows c.checked.new.keep org) = subst IsSome (sym same) (c.in-Ok.ensures.there before sound) in
    let good : c.checked.result ≡ Err Unavailable → ⊥ = λ e. ok_apart c.in-Ok.task c.checked.result c.in-Ok.is e in
    IfOk-weaker c.carry.result _ _
    (λ p is. is some ∙ facts_same _ _ _ _ _ _ (c.checked.ensures.names before sound good) (sym (ap id_spelt c.in-Ok.is) ∙ c.checked.ensures.spells before sound good)
    (ap (λ (x : Option Organization). traced c.args.at x (Ok c.in-Ok.task)) same ∙ c.in-Ok.ensures.traces before sound))
    (c.carry.ensures.facts clean (c.checked.ensures.unchanged.kept before sound))

pub returns-in-Err-clause-facts : goal.returns-in-Err-clause-facts
returns-in-Err-clause-facts g c = λ clean sound.
    let org = c.args.asked.now.caller in
    let r = g.K.Keep.rows c.args.keep.now org in
    with_known _ c.refuse_request.result (λ apart.
    let bad : c.checked.result ≡ Err Unavailable → ⊥ = λ e. err_apart c.in-Err.refusal c.checked.result c.in-Err.is apart e in
    IfOk-weaker c.refuse_request.result _ _
    (λ p is. is ∙ facts_same _ _ _ _ _ _ (c.checked.ensures.names clean sound bad) (sym (ap id_spelt c.in-Err.is) ∙ c.checked.ensures.spells clean sound bad)
    (sym (ap (traced c.args.at r) (c.in-Err.ensures.ok clean sound apart))))
    c.refuse_request.ensures.facts) c.refuse_request.ensures.known

pub returns-in-Ok-clause-down : goal.returns-in-Ok-clause-down
returns-in-Ok-clause-down g c = λ clean sound.
    let org = c.args.asked.now.caller in
    let r = g.K.Keep.rows c.args.keep.now org in
    let before : g.K.Keep.clean c.checked.new.keep = c.carry.ensures.unchanged.so_far clean in
    let good : c.checked.result ≡ Err Unavailable → ⊥ = λ e. ok_apart c.in-Ok.task c.checked.result c.in-Ok.is e in
    IfErr-weaker c.carry.result _ _ (λ facts h.
    carried_so_far r c.args.at c.args.asked.now c.args.content_md5.now c.args.body _ _ facts (c.checked.ensures.names before sound good) (sym (ap id_spelt c.in-Ok.is) ∙ c.checked.ensures.spells before sound good) h)
    c.carry.ensures.down

pub returns-in-Err-clause-down : goal.returns-in-Err-clause-down
returns-in-Err-clause-down g c = λ clean sound.
    let r = g.K.Keep.rows c.args.keep.now c.args.asked.now.caller in
    IfErr-weaker c.refuse_request.result _ _ (λ facts is. refused_so_far r c.args.at c.args.asked.now c.args.content_md5.now c.args.body _ facts (c.checked.ensures.reads clean sound) is) c.refuse_request.ensures.down
