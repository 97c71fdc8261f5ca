use Rattle.checks.specs.Faults.{OfHead}
use Rattle.checks.specs.Inner.Heads.{IsSoundHead}
use Rattle.checks.proofs.RowLists.{all_judged}
use Rattle.checks.proofs.heads.judge_heads.Goals as goal

pub loop-head-preserved : goal.loop-head-preserved
loop-head-preserved c =
    all_judged (OfHead c.args.vpages.now) IsSoundHead c.args.heads.now c.loop-head.head-index c.head-item.result _ _ _ c.loop-head-test.true c.head-item.is c.loop-head.invariant c.in_ok-judge_head.ensures
