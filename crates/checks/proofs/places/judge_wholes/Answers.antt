use Rattle.checks.specs.Pages.{HasTextIn}
use Rattle.checks.specs.declared.found.FaultKind.TheVariants as kind
use Rattle.checks.specs.Judging.{Breaks}
use Rattle.checks.specs.Faults.{version_fault}
use Rattle.checks.proofs.JudgingLemmas.{judges_none}
use Rattle.checks.proofs.PlacesLemmas.{judges_all, no_runs}
use Rattle.checks.proofs.RowLists.{all_judged}
use Rattle.checks.proofs.places.judge_wholes.Goals as goal

pub loop-row-init : goal.loop-row-init
loop-row-init c = record {
  judged = λ heads vpages has. judges_none c.args.found.now tt (λ f none. none);
  known = λ heads vpages has. no_runs heads vpages c.new-runs.result c.new-runs.ensures.empty;
}

pub loop-row-preserved : goal.loop-row-preserved
loop-row-preserved c = record {
  judged = λ heads vpages has. all_judged (λ x. Breaks (HasTextIn heads vpages x.1) (version_fault kind.Text x.1)) (λ x. HasTextIn heads vpages x.1) c.args.versions.now c.loop-row.row-index c.row-item.result _ _ _ c.loop-row-test.true c.row-item.is (c.loop-row.invariant.judged heads vpages has) (c.in_ok-judge_text.ensures.judges heads vpages has (c.loop-row.invariant.known heads vpages has));
  known = λ heads vpages has. c.in_ok-judge_text.ensures.runs heads vpages has (c.loop-row.invariant.known heads vpages has);
}

pub returns : goal.returns
returns c heads vpages has = judges_all (λ x. Breaks (HasTextIn heads vpages x.1) (version_fault kind.Text x.1)) (λ x. HasTextIn heads vpages x.1) c.args.versions.now c.loop-row.row-index _ _ c.loop-row-test.false (c.loop-row.invariant.judged heads vpages has)
