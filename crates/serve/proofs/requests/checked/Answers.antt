use Rattle.serve.proofs.Outside.{Ok, Err, IsSome, Option, ap, subst, sym, ◌≡◌, ◌∙◌, refl, inr, Organization}
use Rattle.serve.specs.Logs.{traced}
use Rattle.serve.specs.Steps.{carried}
use Rattle.serve.specs.Inner.Judging.{missed}
use Rattle.serve.proofs.CheckLemmas.{past_reach, after_reach, role_there, unknown_refused, policy_refuses, out_of_reach}
use Rattle.serve.proofs.JudgingLemmas.{judged_in_range, judged_stands, missed_stands}
use Rattle.serve.proofs.LogLemmas.{row_calls, no_row_calls, row_names, judged_traced, unknown_unread, refused_unread, out_of_reach_unread, judged_read}
use Rattle.serve.proofs.requests.checked.Goals as goal

pub returns-in-Ok-judged-clause-ok : goal.returns-in-Ok-judged-clause-ok
returns-in-Ok-judged-clause-ok g c = λ clean sound.
    let asked = c.args.asked.now in
    let r = g.K.Keep.rows c.args.keep.now asked.caller in
    let known = row_calls r c.args.at asked c.in-Ok.row (c.in-Ok.ensures.ok clean sound) in
    let reached = past_reach r c.args.at asked (λ prefix. after_reach r prefix asked c.args.content_md5.now c.args.body) c.in-Ok.row.caller (after_reach r c.in-Ok.row.caller.prefix asked c.args.content_md5.now c.args.body) known
    (sym c.allowed.ensures ∙ c.in_default.is) (sym c.in_reach.ensures ∙ c.in_default-in_reach.is) refl in
    judged_stands asked.caller r c.in-Ok.row.caller.prefix asked.act c.args.content_md5.now asked.lock_id c.args.body c.in-Ok-judged.task (role_there r c.args.at asked c.in-Ok.row.caller known) c.in-Ok-judged.ensures c.args.at
    ∙ ap (carried asked.caller c.args.at r) (sym reached)

pub returns-clause-ok : goal.returns-clause-ok
returns-clause-ok g c = λ clean sound apart.
    let asked = c.args.asked.now in
    let r = g.K.Keep.rows c.args.keep.now asked.caller in
    let before : g.K.Keep.clean c.known_caller.new.keep = c.missed.ensures.unchanged.so_far clean in
    let known = row_calls r c.args.at asked c.in-Ok.row (c.in-Ok.ensures.ok before sound) in
    let same : g.K.Keep.rows c.known_caller.new.keep asked.caller ≡ r = c.known_caller.ensures.unchanged.same before asked.caller in
    let some : IsSome (g.K.Keep.rows c.known_caller.new.keep asked.caller) = subst IsSome (sym same) (role_there r c.args.at asked c.in-Ok.row.caller known) in
    let missing = c.missed.ensures.ok clean (c.known_caller.ensures.unchanged.kept before sound) some apart in
    past_reach r c.args.at asked (λ prefix. after_reach r prefix asked c.args.content_md5.now c.args.body) c.in-Ok.row.caller (Err c.missed.result) known (sym c.allowed.ensures ∙ c.in_default.is) (sym c.in_reach.ensures ∙ c.in_default-in_reach.is)
    (missed_stands r c.in-Ok.row.caller.prefix asked.act c.args.content_md5.now asked.lock_id c.args.body c.in-Err-judged.refusal (c.in-Err-judged.ensures (c.missed.ensures.known apart))
    ∙ ap Err (ap (λ (x : Option Organization). missed x asked.act c.in-Err-judged.refusal) (sym same) ∙ sym missing))

pub returns-in-Ok-judged-clause-range : goal.returns-in-Ok-judged-clause-range
returns-in-Ok-judged-clause-range g c =
    let asked = c.args.asked.now in
    judged_in_range c.in-Ok.row.caller.prefix asked.act c.args.content_md5.now asked.lock_id c.args.body c.in-Ok-judged.task c.in-Ok-judged.ensures

pub returns-in-Err-clause-ok : goal.returns-in-Err-clause-ok
returns-in-Err-clause-ok g c = λ clean sound apart.
    let asked = c.args.asked.now in
    let r = g.K.Keep.rows c.args.keep.now asked.caller in
    unknown_refused r c.args.at asked (λ prefix. after_reach r prefix asked c.args.content_md5.now c.args.body) c.in-Err.refusal (no_row_calls r c.args.at asked c.in-Err.refusal (c.in-Err.ensures.ok clean sound apart))

pub returns-in-Err-clause-spells : goal.returns-in-Err-clause-spells
returns-in-Err-clause-spells g c = λ clean sound apart.
    let asked = c.args.asked.now in
    let r = g.K.Keep.rows c.args.keep.now asked.caller in
    unknown_unread r c.args.at asked c.args.content_md5.now c.args.body c.in-Err.refusal (c.in-Err.ensures.ok clean sound (λ e. apart (ap Err e)))

pub returns-in-Err-allowed-clause-ok : goal.returns-in-Err-allowed-clause-ok
returns-in-Err-allowed-clause-ok g c = λ clean sound apart.
    let asked = c.args.asked.now in
    let r = g.K.Keep.rows c.args.keep.now asked.caller in
    policy_refuses r c.args.at asked (λ prefix. after_reach r prefix asked c.args.content_md5.now c.args.body) c.in-Ok.row.caller c.in-Err-allowed.refusal (row_calls r c.args.at asked c.in-Ok.row (c.in-Ok.ensures.ok clean sound))
    (sym c.allowed.ensures ∙ c.in-Err-allowed.is)

pub returns-in-Err-allowed-clause-spells : goal.returns-in-Err-allowed-clause-spells
returns-in-Err-allowed-clause-spells g c = λ clean sound apart.
    let asked = c.args.asked.now in
    let r = g.K.Keep.rows c.args.keep.now asked.caller in
    refused_unread r c.args.at asked c.args.content_md5.now c.args.body c.in-Ok.row.caller c.in-Err-allowed.refusal (row_calls r c.args.at asked c.in-Ok.row (c.in-Ok.ensures.ok clean sound))
    (sym c.allowed.ensures ∙ c.in-Err-allowed.is)

pub returns-in-Err-in_reach-clause-ok : goal.returns-in-Err-in_reach-clause-ok
returns-in-Err-in_reach-clause-ok g c = λ clean sound apart.
    let asked = c.args.asked.now in
    let r = g.K.Keep.rows c.args.keep.now asked.caller in
    out_of_reach r c.args.at asked (λ prefix. after_reach r prefix asked c.args.content_md5.now c.args.body) c.in-Ok.row.caller c.in-Err-in_reach.refusal (row_calls r c.args.at asked c.in-Ok.row (c.in-Ok.ensures.ok clean sound))
    (sym c.allowed.ensures ∙ c.in_default.is) (sym c.in_reach.ensures ∙ c.in-Err-in_reach.is)

pub returns-in-Err-in_reach-clause-spells : goal.returns-in-Err-in_reach-clause-spells
returns-in-Err-in_reach-clause-spells g c = λ clean sound apart.
    let asked = c.args.asked.now in
    let r = g.K.Keep.rows c.args.keep.now asked.caller in
    out_of_reach_unread r c.args.at asked c.args.content_md5.now c.args.body c.in-Ok.row.caller c.in-Err-in_reach.refusal (row_calls r c.args.at asked c.in-Ok.row (c.in-Ok.ensures.ok clean sound))
    (sym c.allowed.ensures ∙ c.in_default.is) (sym c.in_reach.ensures ∙ c.in-Err-in_reach.is)

pub returns-in-Ok-judged-clause-traces : goal.returns-in-Ok-judged-clause-traces
returns-in-Ok-judged-clause-traces g c = λ clean sound.
    let asked = c.args.asked.now in
    let r = g.K.Keep.rows c.args.keep.now asked.caller in
    let known = row_calls r c.args.at asked c.in-Ok.row (c.in-Ok.ensures.ok clean sound) in
    let reached = past_reach r c.args.at asked (λ prefix. after_reach r prefix asked c.args.content_md5.now c.args.body) c.in-Ok.row.caller (after_reach r c.in-Ok.row.caller.prefix asked c.args.content_md5.now c.args.body) known
    (sym c.allowed.ensures ∙ c.in_default.is) (sym c.in_reach.ensures ∙ c.in_default-in_reach.is) refl in
    judged_traced r c.in-Ok.row.caller.prefix asked.act c.args.content_md5.now asked.lock_id c.args.body c.in-Ok-judged.task (role_there r c.args.at asked c.in-Ok.row.caller known) c.in-Ok-judged.ensures c.args.at
    ∙ ap (traced c.args.at r) (sym reached)

pub returns-in-Ok-judged-clause-spells : goal.returns-in-Ok-judged-clause-spells
returns-in-Ok-judged-clause-spells g c = λ clean sound apart.
    let asked = c.args.asked.now in
    let r = g.K.Keep.rows c.args.keep.now asked.caller in
    judged_read r c.args.at asked c.args.content_md5.now c.args.body c.in-Ok.row.caller (Ok c.in-Ok-judged.task) (row_calls r c.args.at asked c.in-Ok.row (c.in-Ok.ensures.ok clean sound))
    (sym c.allowed.ensures ∙ c.in_default.is) (sym c.in_reach.ensures ∙ c.in_default-in_reach.is) c.in-Ok-judged.ensures

pub returns-clause-spells : goal.returns-clause-spells
returns-clause-spells g c = λ clean sound apart.
    let asked = c.args.asked.now in
    let r = g.K.Keep.rows c.args.keep.now asked.caller in
    let before : g.K.Keep.clean c.known_caller.new.keep = c.missed.ensures.unchanged.so_far clean in
    judged_read r c.args.at asked c.args.content_md5.now c.args.body c.in-Ok.row.caller (Err c.in-Err-judged.refusal) (row_calls r c.args.at asked c.in-Ok.row (c.in-Ok.ensures.ok before sound))
    (sym c.allowed.ensures ∙ c.in_default.is) (sym c.in_reach.ensures ∙ c.in_default-in_reach.is) (c.in-Err-judged.ensures (c.missed.ensures.known (λ e. apart (ap Err e))))

pub returns-clause-names : goal.returns-clause-names
returns-clause-names g c = λ clean sound apart.
    let asked = c.args.asked.now in
    let r = g.K.Keep.rows c.args.keep.now asked.caller in
    let before : g.K.Keep.clean c.known_caller.new.keep = c.missed.ensures.unchanged.so_far clean in
    sym (row_names r c.args.at asked c.in-Ok.row (c.in-Ok.ensures.ok before sound))

pub returns-clause-reads : goal.returns-clause-reads
returns-clause-reads g c = λ clean sound.
    let asked = c.args.asked.now in
    let r = g.K.Keep.rows c.args.keep.now asked.caller in
    let before : g.K.Keep.clean c.known_caller.new.keep = c.missed.ensures.unchanged.so_far clean in
    inr (sym (row_names r c.args.at asked c.in-Ok.row (c.in-Ok.ensures.ok before sound)))
