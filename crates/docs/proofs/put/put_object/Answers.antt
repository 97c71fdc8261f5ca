use Rattle.std.proofs.lemmas.Result.{on_ok_weaker}
use Rattle.docs.proofs.Putting.{object_put}
use Rattle.docs.proofs.put.put_object.Goals as goal

pub returns : goal.returns
returns g c =
    let opens = c.in_ok-begin_object.ensures in
    let closes = c.end_object.ensures in
    on_ok_weaker c.end_object.result (λ ok. object_put (g.T.Shown.members c.args.row.now) opens.room.0 opens.ok c.in_ok-put.ensures closes.room.0 ok) closes.ok
