use Rattle.std.proofs.Common.{◌≡◌, Bool, true, Some, Result, Ok, Err, IfOk, IfErr, sym, ap, subst, rules}
use Rattle.serve.proofs.Outside.{IsReplyText, unavailable_answer, LogRow, lasts_behind}
use Rattle.serve.specs.Inner.Replying.{PreparesFor, LogsFor, LogsDownFor, due_reply, due_row}
use Rattle.serve.specs.declared.messages.Prepared.{Prepared}
use Rattle.serve.proofs.ExchangeLemmas.{AnswersRead, answered_read, asks_something, replied, refused_read, no_reply}
use Rattle.serve.proofs.exchanges.answer_read.Goals as goal

pub returns-in-Ok-Ok-clause-lasts : goal.returns-in-Ok-Ok-clause-lasts
returns-in-Ok-Ok-clause-lasts g c = lasts_behind c.args.keep.now c.prepare.new.keep c.commit_and_reply-result.new.keep c.prepare.ensures.unchanged c.commit_and_reply-result.ensures.lasts (λ before sound.
    let some : c.in-Ok-Ok.field-0 ≡ Ok c.in-Ok-Ok.ready = search rules in
    let ok = subst (λ (o : Result Prepared LogRow). IfOk o (λ r. PreparesFor c.args.now (g.K.Keep.rows c.args.keep.now) c.args.read r)) some (c.in-Ok-Ok.ensures.ok before sound) in
    asks_something c.args.now c.args.read (g.K.Keep.rows c.args.keep.now) (g.K.Keep.rows c.prepare.new.keep) c.in-Ok-Ok.ready (c.prepare.ensures.unchanged.same before) ok)

pub returns-in-Ok-Ok-clause-reported : goal.returns-in-Ok-Ok-clause-reported
returns-in-Ok-Ok-clause-reported g c = λ clean sound door passes.
    let before : g.K.Keep.clean c.prepare.new.keep = c.commit_and_reply-result.ensures.lasts.so_far clean in
    let some : c.in-Ok-Ok.field-0 ≡ Ok c.in-Ok-Ok.ready = search rules in
    let ok = subst (λ (o : Result Prepared LogRow). IfOk o (λ r. PreparesFor c.args.now (g.K.Keep.rows c.args.keep.now) c.args.read r)) some (c.in-Ok-Ok.ensures.ok before sound) in
    let logs = subst (λ (o : Result Prepared LogRow). IfOk o (λ r. LogsFor c.args.now (g.K.Keep.rows c.args.keep.now) c.args.read r.row)) some (c.in-Ok-Ok.ensures.logs before sound) in
    let t = c.commit_and_reply-result.ensures.text in
    let is_row : Some (due_row c.commit_and_reply-result.new.down c.in-Ok-Ok.ready.row) ≡ Some c.row_after.result = ap Some (sym c.row_after.ensures) in
    let is_text = subst (λ (head : Bool). IsReplyText (due_reply c.commit_and_reply-result.new.down head c.in-Ok-Ok.ready.reply) c.args.now t.0) c.without_body-head_only.ensures t.1 in
    replied door c.args.now c.args.read (g.K.Keep.rows c.args.keep.now) (g.K.Keep.rows c.commit_and_reply-result.new.keep) c.commit_and_reply-result.new.down (Some c.row_after.result)
    (g.O.Outlet.written c.args.outlet.now) (g.O.Outlet.written c.commit_and_reply-result.new.outlet) t.0 c.commit_and_reply-result.result
    (subst (AnswersRead door c.args.now c.args.read (g.K.Keep.rows c.args.keep.now) (g.K.Keep.rows c.commit_and_reply-result.new.keep) c.commit_and_reply-result.new.down t.0) is_row
    (answered_read door c.args.now c.args.read (g.K.Keep.rows c.args.keep.now) (g.K.Keep.rows c.prepare.new.keep) (g.K.Keep.rows c.commit_and_reply-result.new.keep) c.in-Ok-Ok.ready c.in-Ok-Ok.ready.row c.commit_and_reply-result.new.down t.0
    passes (c.prepare.ensures.unchanged.same before) ok logs (c.commit_and_reply-result.ensures.committed clean (c.prepare.ensures.unchanged.kept before sound)) is_text))
    t.2 c.commit_and_reply-result.ensures.fault

pub returns-in-Ok-Err-clause-reported : goal.returns-in-Ok-Err-clause-reported
returns-in-Ok-Err-clause-reported g c = λ clean sound door passes.
    let down : c.in-Ok-Err.field-0 ≡ Err c.in-Ok-Err.so_far = search rules in
    let logs = subst (λ (o : Result Prepared LogRow). IfErr o (λ row. LogsDownFor c.args.now (g.K.Keep.rows c.args.keep.now) c.args.read row)) down (c.in-Ok-Err.ensures.down clean sound) in
    let t = c.refuse_exchange.ensures.text in
    let is_text = subst (λ (head : Bool). IsReplyText (unavailable_answer head) c.args.now t.0) c.without_body-head_only.ensures t.1 in
    replied door c.args.now c.args.read (g.K.Keep.rows c.args.keep.now) (g.K.Keep.rows c.prepare.new.keep) true (Some c.in-Ok-Err.so_far)
    (g.O.Outlet.written c.args.outlet.now) (g.O.Outlet.written c.refuse_exchange.new.outlet) t.0 c.refuse_exchange.result
    (refused_read door c.args.now c.args.read (g.K.Keep.rows c.args.keep.now) (g.K.Keep.rows c.prepare.new.keep) t.0 c.in-Ok-Err.so_far passes (c.prepare.ensures.unchanged.same clean) is_text logs)
    t.2 c.refuse_exchange.ensures.fault

pub returns-in-Err-clause-reported : goal.returns-in-Err-clause-reported
returns-in-Err-clause-reported g c = λ clean sound door passes.
    no_reply door c.args.now c.args.read (g.K.Keep.rows c.args.keep.now) (g.K.Keep.rows c.prepare.new.keep) c.silent_row.result
    (g.O.Outlet.written c.args.outlet.now) c.in-Err.fault
    c.silent_row.ensures c.in-Err.ensures.never_write (λ e. c.in-Err.ensures.ended.0 (ap Err e)) (λ e. c.in-Err.ensures.read.0 (ap Err e)) (λ e. c.in-Err.ensures.continues.0 (ap Err e))
