use Rattle.serve.proofs.DoorLemmas.{operates_for, row_for, turned_out, row_of_none}
use Rattle.serve.proofs.doors.operate.Goals as goal

pub returns-in-Ok-clause-ok : goal.returns-in-Ok-clause-ok
returns-in-Ok-clause-ok g c = λ clean sound.
    operates_for c.args.operators.now c.args.at c.args.message.now c.in-Ok.operator.now (g.K.Keep.rows c.args.keep.now) (g.K.Keep.rows c.operate_for.new.keep) c.operate_for.result c.in-Ok.ensures.ok (c.operate_for.ensures.ok clean sound)

pub returns-in-Ok-clause-row : goal.returns-in-Ok-clause-row
returns-in-Ok-clause-row g c =
    row_for c.args.operators.now c.args.at c.args.message.now c.in-Ok.operator.now c.operate_for.result c.in-Ok.ensures.ok c.operate_for.ensures.row

pub returns-in-Err-clause-ok : goal.returns-in-Err-clause-ok
returns-in-Err-clause-ok g c = λ clean sound.
    turned_out c.args.operators.now c.args.at c.args.message.now (g.K.Keep.rows c.args.keep.now) c.in-Err.refusal c.is_head.result c.turn_away.result c.is_head.ensures
    c.in-Err.ensures.err c.turn_away.ensures.known c.turn_away.ensures.ok

pub returns-in-Err-clause-row : goal.returns-in-Err-clause-row
returns-in-Err-clause-row g c =
    row_of_none c.args.operators.now c.args.at c.args.message.now c.in-Err.refusal c.turn_away.result c.in-Err.ensures.err c.turn_away.ensures.secret c.turn_away.ensures.row
