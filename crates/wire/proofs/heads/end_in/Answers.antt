use Rattle.wire.proofs.HeadLemmas.{goes_on}
use Rattle.wire.proofs.heads.end_in.Goals as goal

pub loop-i-preserved : goal.loop-i-preserved
loop-i-preserved c =
    goes_on c.args.position.now c.loop-i.position c.in-Some.next c.args.piece.now c.loop-i.i c.loop-i-test.true c.loop-i.invariant c.in-Some.ensures
