use Rattle.checks.specs.Pages.{IsCountedIn}
use Rattle.checks.specs.declared.found.FaultKind.TheVariants as kind
use Rattle.checks.specs.Judging.{Breaks}
use Rattle.checks.specs.Faults.{page_fault}
use Rattle.checks.proofs.RowLists.{all_judged}
use Rattle.checks.proofs.places.judge_counts.Goals as goal

pub loop-head-preserved : goal.loop-head-preserved
loop-head-preserved c =
    all_judged (λ h. Breaks (IsCountedIn c.args.vpages.now h) (page_fault kind.Uses c.args.vpages.now h)) (IsCountedIn c.args.vpages.now) c.args.heads.now c.loop-head.head-index c.head-item.result _ _ _ c.loop-head-test.true c.head-item.is c.loop-head.invariant (c.in_ok-judge_count.ensures c.args.vpages.now c.in_ok-counts.ensures)
