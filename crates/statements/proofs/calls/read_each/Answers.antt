use Rattle.statements.proofs.Sorting.{read_more}
use Rattle.statements.proofs.calls.read_each.Goals as goal

pub loop-row-preserved : goal.loop-row-preserved
loop-row-preserved g c =
    rw c.in_ok-push.ensures.items (read_more g.T.Read.is_in c.args.rows.now _ _ _ _ c.loop-row-test.true c.row-item.is c.loop-row.invariant c.in_ok-of_row.ensures)
