use Rattle.checks.proofs.Outside.{sym, ap, ◌∙◌, is_org_name, IsOrgRow}
use Rattle.checks.specs.declared.found.FaultKind.TheVariants as kind
use Rattle.checks.specs.Judging.{Breaks}
use Rattle.checks.specs.Faults.{org_fault}
use Rattle.checks.proofs.JudgingLemmas.{judges_law, judges_named}
use Rattle.checks.proofs.RowLists.{all_judged}
use Rattle.checks.proofs.ranges.orgs_in_range.Goals as goal

pub loop-row-preserved : goal.loop-row-preserved
loop-row-preserved c =
    let x = c.loop-row-item.result in
    let reported = c.in_ok-fits.ensures ∙ ap is_org_name c.as_str-name.ensures in
    all_judged (λ y. Breaks (IsOrgRow y) (org_fault kind.Range y.1.name)) IsOrgRow c.args.orgs.now c.loop-row.row-index x c.args.found.now c.loop-row.found c.judge.new.self c.loop-row-test.true c.loop-row-item.is c.loop-row.invariant
    (judges_law c.loop-row.found c.judge.new.self (λ fits. record { named = sym reported ∙ fits; limit = c.known_limit.ensures }) (λ row. reported ∙ row.named) (judges_named c.loop-row.found c.judge.new.self (ap (org_fault kind.Range) c.as_str-name.ensures) c.in_ok-judge.ensures))
