use Rattle.serve.proofs.Outside.{Bool, subst, IsReplyText, unavailable_answer}
use Rattle.serve.proofs.DoorLemmas.{told_at_door, unserved_at_door}
use Rattle.serve.proofs.exchanges.answer_at_door.Goals as goal

pub returns-in-Ok-clause-text : goal.returns-in-Ok-clause-text
returns-in-Ok-clause-text g c = λ clean sound.
    let t = c.write_due.ensures.text in
    (t.0, told_at_door c.args.operators.now c.args.now c.args.message.now (g.K.Keep.rows c.args.keep.now) (g.K.Keep.rows c.operate.new.keep) c.in-Ok.operated t.0 (c.in-Ok.ensures.ok clean sound) t.1, t.2)

pub returns-in-Err-clause-text : goal.returns-in-Err-clause-text
returns-in-Err-clause-text g c = λ clean sound.
    let t = c.refuse_exchange.ensures.text in
    let is = subst (λ (head : Bool). IsReplyText (unavailable_answer head) c.args.now t.0) c.is_head.ensures t.1 in
    (t.0, unserved_at_door c.args.operators.now c.args.now c.args.message.now (g.K.Keep.rows c.args.keep.now) (g.K.Keep.rows c.operate.new.keep) c.in-Err.so_far t.0 (c.in-Err.ensures.err clean) is c.in-Err.ensures.row, t.2)
