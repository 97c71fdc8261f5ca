use Rattle.docs.proofs.Putting.{item_put, items_put}
use Rattle.docs.proofs.put.put_objects.Goals as goal

pub loop-row-preserved : goal.loop-row-preserved
loop-row-preserved g c = item_put g.T.Shown.members c.args.rows.now _ _ c.loop-row-test.true c.row-item.is c.loop-row.invariant c.in_ok-put_object.ensures

pub returns : goal.returns
returns g c = items_put g.T.Shown.members c.args.rows.now _ c.loop-row-test.false c.loop-row.invariant
