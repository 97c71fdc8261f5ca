use Rattle.checks.specs.Faults.{LacksRun}
use Rattle.checks.specs.Missing.{HasItsRuns}
use Rattle.checks.proofs.RowLists.{all_judged}
use Rattle.checks.proofs.missing.judge_missing.Goals as goal

-- one workspace more was looked at
pub loop-row-preserved : goal.loop-row-preserved
loop-row-preserved c =
    all_judged (λ x. LacksRun c.args.runs.now x.1) (λ x. HasItsRuns c.args.runs.now x.1) c.args.wss.now c.loop-row.row-index c.row-item.result _ _ _ c.loop-row-test.true c.row-item.is c.loop-row.invariant
    (c.in_ok-judge_row.ensures c.args.runs.now c.in_ok-keys.ensures)
