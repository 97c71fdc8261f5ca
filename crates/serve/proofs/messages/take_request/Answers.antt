use Rattle.std.proofs.Common.{◌≡◌, Some, Result, Ok, IfOk, ap, subst, ◌∙◌, rules}
use Rattle.serve.proofs.Outside.{same_Some, LogRow, lasts_behind}
use Rattle.serve.specs.Inner.Replying.{PreparesFor, LogsFor}
use Rattle.serve.specs.declared.messages.Prepared.{Prepared}
use Rattle.serve.proofs.ExchangeLemmas.{input_read, input_answered, asks_something}
use Rattle.serve.proofs.messages.take_request.Goals as goal

pub returns-in_err-commit-clause-lasts : goal.returns-in_err-commit-clause-lasts
returns-in_err-commit-clause-lasts g c = lasts_behind c.args.keep.now c.prepare.new.keep c.commit.new.keep c.prepare.ensures.unchanged c.commit.ensures.lasts (λ before sound.
    let some : c.in-Ok-Ok.field-0 ≡ Ok c.in-Ok-Ok.ready = search rules in
    let ok = subst (λ (o : Result Prepared LogRow). IfOk o (λ r. PreparesFor c.args.at (g.K.Keep.rows c.args.keep.now) c.read_message-read.result r)) some (c.in-Ok-Ok.ensures.ok before sound) in
    asks_something c.args.at c.read_message-read.result (g.K.Keep.rows c.args.keep.now) (g.K.Keep.rows c.prepare.new.keep) c.in-Ok-Ok.ready (c.prepare.ensures.unchanged.same before) ok)

pub returns-clause-lasts : goal.returns-clause-lasts
returns-clause-lasts g c = lasts_behind c.args.keep.now c.prepare.new.keep c.commit.new.keep c.prepare.ensures.unchanged c.commit.ensures.lasts (λ before sound.
    let some : c.in-Ok-Ok.field-0 ≡ Ok c.in-Ok-Ok.ready = search rules in
    let ok = subst (λ (o : Result Prepared LogRow). IfOk o (λ r. PreparesFor c.args.at (g.K.Keep.rows c.args.keep.now) c.read_message-read.result r)) some (c.in-Ok-Ok.ensures.ok before sound) in
    asks_something c.args.at c.read_message-read.result (g.K.Keep.rows c.args.keep.now) (g.K.Keep.rows c.prepare.new.keep) c.in-Ok-Ok.ready (c.prepare.ensures.unchanged.same before) ok)

pub returns-clause-ok : goal.returns-clause-ok
returns-clause-ok g c = λ clean sound.
    let before : g.K.Keep.clean c.prepare.new.keep = c.commit.ensures.lasts.so_far clean in
    let kept : g.K.Keep.sound c.prepare.new.keep = c.prepare.ensures.unchanged.kept before sound in
    let some : c.in-Ok-Ok.field-0 ≡ Ok c.in-Ok-Ok.ready = search rules in
    let ok = subst (λ (o : Result Prepared LogRow). IfOk o (λ r. PreparesFor c.args.at (g.K.Keep.rows c.args.keep.now) c.read_message-read.result r)) some (c.in-Ok-Ok.ensures.ok before sound) in
    let logs = subst (λ (o : Result Prepared LogRow). IfOk o (λ r. LogsFor c.args.at (g.K.Keep.rows c.args.keep.now) c.read_message-read.result r.row)) some (c.in-Ok-Ok.ensures.logs before sound) in
    let t = c.in-Ok.ensures.text in
    let known = input_read _ _ (Some c.read_message-read.new.outlet.writer.items) c.args.bytes.now c.read_message-read.result c.new-inlet.ensures.left (c.new-outlet.ensures.written ∙ ap Some c.new.ensures.items) c.read_message-read.ensures.known in
    input_answered c.args.at c.read_message-read.result (g.K.Keep.rows c.args.keep.now) (g.K.Keep.rows c.prepare.new.keep) (g.K.Keep.rows c.commit.new.keep) c.in-Ok-Ok.ready c.in-Ok-Ok.ready.row c.args.bytes.now
    (Some c.read_message-read.new.outlet.writer.items) t.0 c.new-2.result
    (c.prepare.ensures.unchanged.same before) ok logs (c.in_ok-commit.ensures.ok clean kept) t.1 known (c.new-2.ensures ∙ same_Some _ _ c.into_inner.ensures ∙ t.2)
