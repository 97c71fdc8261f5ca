use Rattle.std.proofs.Common.{◌≡◌, true, false, rules}
use Rattle.route.specs.Doors.{is_at_door}
use Rattle.serve.specs.declared.doors.Door.TheVariants.{Closed, Open}
use Rattle.serve.proofs.DoorLemmas.{at_door}
use Rattle.serve.proofs.exchanges.answer.Goals as goal

pub returns-then-is_at_door-clause-reported : goal.returns-then-is_at_door-clause-reported
returns-then-is_at_door-clause-reported g c = λ clean sound.
    let t = c.answer_at_door.ensures.text clean sound in
    let comes : is_at_door c.in-Ok.message ≡ true = search rules in
    rw c.in-Open.is (rw c.in-Ok.is (at_door c.in-Open.operators c.args.now c.in-Ok.message (g.K.Keep.rows c.args.keep.now) (g.K.Keep.rows c.answer_at_door.new.keep) (g.O.Outlet.written c.args.outlet.now) (g.O.Outlet.written c.answer_at_door.new.outlet)
    c.answer_at_door.new.is_down c.answer_at_door.new.row t.0 c.answer_at_door.result comes t.1 t.2 c.answer_at_door.ensures.fault))

pub returns-else-is_at_door-clause-reported : goal.returns-else-is_at_door-clause-reported
returns-else-is_at_door-clause-reported g c = λ clean sound.
    let away : is_at_door c.in-Ok.message ≡ false = search rules in
    rw c.in-Open.is (rw c.in-Ok.is (c.answer_read-else-is_at_door.ensures.reported clean sound (Open c.in-Open.operators) away))

pub returns-in-Err-clause-reported : goal.returns-in-Err-clause-reported
returns-in-Err-clause-reported g c = λ clean sound. rw c.in-Open.is (rw c.in-Err.is (c.answer_read-in-Err.ensures.reported clean sound (Open c.in-Open.operators) tt))

pub returns-in-Closed-clause-reported : goal.returns-in-Closed-clause-reported
returns-in-Closed-clause-reported g c = λ clean sound. rw c.in-Closed.is (c.answer_read.ensures.reported clean sound Closed tt)
