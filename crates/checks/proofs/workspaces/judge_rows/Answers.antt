use Rattle.checks.specs.Inner.Workspaces.{IsLawfulAt, OfGroups}
use Rattle.checks.proofs.RowLists.{all_judged}
use Rattle.checks.proofs.workspaces.judge_rows.Goals as goal

-- one workspace more was looked at
pub loop-row-preserved : goal.loop-row-preserved
loop-row-preserved c =
    all_judged (λ x. OfGroups c.args.groups.now x.1) (λ x. IsLawfulAt c.args.groups.now x.1) c.as_slice-wss.result.now c.loop-row.row-index c.row-item.result c.args.found.now c.loop-row.found c.judge_row.new.found
    c.loop-row-test.true c.row-item.is c.loop-row.invariant c.in_ok-judge_row.ensures
