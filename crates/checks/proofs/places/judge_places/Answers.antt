use Rattle.checks.specs.Pages.{IsPlacedIn}
use Rattle.checks.specs.declared.found.FaultKind.TheVariants as kind
use Rattle.checks.specs.Judging.{Breaks}
use Rattle.checks.specs.Faults.{place_fault}
use Rattle.checks.proofs.RowLists.{all_judged}
use Rattle.checks.proofs.places.judge_places.Goals as goal

pub loop-row-preserved : goal.loop-row-preserved
loop-row-preserved c =
    all_judged (λ x. Breaks (IsPlacedIn c.args.versions.now x.1) (place_fault kind.Place x.1)) (λ x. IsPlacedIn c.args.versions.now x.1) c.args.vpages.now c.loop-row.row-index c.row-item.result _ _ _ c.loop-row-test.true c.row-item.is c.loop-row.invariant (c.in_ok-judge_place.ensures c.args.versions.now c.in_ok-sizes.ensures)
