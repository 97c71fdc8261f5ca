use Rattle.checks.specs.Pages.{NamesPage}
use Rattle.checks.specs.declared.found.FaultKind.TheVariants as kind
use Rattle.checks.specs.Judging.{Breaks}
use Rattle.checks.specs.Faults.{place_fault}
use Rattle.checks.proofs.PlacesLemmas.{judges_all}
use Rattle.checks.proofs.RowLists.{all_judged}
use Rattle.checks.proofs.places.judge_names.Goals as goal

pub loop-row-preserved : goal.loop-row-preserved
loop-row-preserved c heads has =
    all_judged (λ x. Breaks (NamesPage heads x.1) (place_fault kind.Text x.1)) (λ x. NamesPage heads x.1) c.args.vpages.now c.loop-row.row-index c.row-item.result _ _ _ c.loop-row-test.true c.row-item.is (c.loop-row.invariant heads has) (c.in_ok-judge_name.ensures heads has)

pub returns : goal.returns
returns c heads has = judges_all (λ x. Breaks (NamesPage heads x.1) (place_fault kind.Text x.1)) (λ x. NamesPage heads x.1) c.args.vpages.now c.loop-row.row-index _ _ c.loop-row-test.false (c.loop-row.invariant heads has)
