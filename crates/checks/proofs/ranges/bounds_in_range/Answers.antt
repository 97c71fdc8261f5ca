use Rattle.checks.proofs.Outside.{sym, ap, ap₂, ◌∙◌, is_prefix, IsBoundRow}
use Rattle.checks.specs.declared.found.FaultKind.TheVariants as kind
use Rattle.checks.specs.Judging.{Breaks}
use Rattle.checks.specs.Faults.{name_fault}
use Rattle.checks.proofs.JudgingLemmas.{judges_law, judges_named}
use Rattle.checks.proofs.RowLists.{all_judged}
use Rattle.checks.proofs.ranges.bounds_in_range.Goals as goal

pub loop-row-preserved : goal.loop-row-preserved
loop-row-preserved c =
    let x = c.loop-row-item.result in
    let reported = c.in_ok-fits.ensures ∙ ap is_prefix c.as_str.ensures in
    all_judged (λ y. Breaks (IsBoundRow y) (name_fault kind.Range y.1.org y.1.name)) IsBoundRow c.args.bounds.now c.loop-row.row-index x c.args.found.now c.loop-row.found c.judge.new.self c.loop-row-test.true c.loop-row-item.is c.loop-row.invariant
    (judges_law c.loop-row.found c.judge.new.self (λ fits. record { until = c.known_end.ensures; prefix = sym reported ∙ fits }) (λ row. reported ∙ row.prefix) (judges_named c.loop-row.found c.judge.new.self (ap₂ (name_fault kind.Range) c.as_str-org.ensures c.as_str-name.ensures) c.in_ok-judge.ensures))
