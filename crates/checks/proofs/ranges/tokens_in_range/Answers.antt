use Rattle.checks.proofs.Outside.{length, sym, ap, ap₂, ◌∙◌, is_org_name, IsTokenRow}
use Rattle.checks.specs.declared.found.FaultKind.TheVariants as kind
use Rattle.checks.specs.Judging.{Breaks}
use Rattle.checks.specs.Faults.{name_fault}
use Rattle.checks.proofs.JudgingLemmas.{judges_law, judges_named}
use Rattle.checks.proofs.RowLists.{all_judged}
use Rattle.checks.proofs.ranges.tokens_in_range.Goals as goal

pub loop-row-preserved : goal.loop-row-preserved
loop-row-preserved c =
    let x = c.loop-row-item.result in
    let of_name = ap is_org_name c.as_str-name.ensures in
    let of_digest = ap length c.as_slice.ensures in
    all_judged (λ y. Breaks (IsTokenRow y) (name_fault kind.Range y.1.org y.1.name)) IsTokenRow c.args.tokens.now c.loop-row.row-index x c.args.found.now c.loop-row.found c.judge.new.self c.loop-row-test.true c.loop-row-item.is c.loop-row.invariant
    (judges_law c.loop-row.found c.judge.new.self
    (λ fits. let both = c.in_ok-fits.ensures.0 fits in record { named = sym of_name ∙ both.0; digest = sym of_digest ∙ both.1 })
    (λ row. c.in_ok-fits.ensures.1 (of_name ∙ row.named, of_digest ∙ row.digest)) (judges_named c.loop-row.found c.judge.new.self (ap₂ (name_fault kind.Range) c.as_str-org.ensures c.as_str-name.ensures) c.in_ok-judge.ensures))
