use Rattle.checks.proofs.Outside.{◌||◌, [], not, ap, ap₂, sym, ◌∙◌, bytes_eq, is_org, any_more}
use Rattle.checks.specs.declared.found.FaultKind.TheVariants as kind
use Rattle.checks.specs.Faults.{org_fault}
use Rattle.checks.specs.Inner.Keys.{has_key}
use Rattle.checks.proofs.JudgingLemmas.{judges_named}
use Rattle.checks.proofs.KeyLemmas.{bytes_turned}
use Rattle.checks.proofs.RowLists.{apart_judged}
use Rattle.checks.proofs.keys.orgs_apart.Goals as goal

pub loop-row-preserved : goal.loop-row-preserved
loop-row-preserved c =
    let x = c.loop-row-item.result in
    let xs = c.args.orgs.now in
    let i = c.loop-row.row-index in
    let known = c.loop-row.invariant in
    let named = c.as_bytes.ensures.value ∙ c.as_str-name.ensures in
    record {
      judged =
          apart_judged (λ a b. is_org a.1.name b) (λ x. org_fault kind.Twice x.1.name) (λ a b. bytes_turned b.1.name a.1.name) xs i x c.in_ok-fresh.fresh c.args.found.now c.loop-row.found c.judge.new.self c.loop-row-test.true c.loop-row-item.is
          (c.in_ok-fresh.ensures.fresh ∙ ap not (ap (λ n. has_key c.loop-row.keys [] n 0 0) named ∙ known.keys x.1.name)) known.judged (judges_named c.loop-row.found c.judge.new.self (ap (org_fault kind.Twice) c.as_str-name.ensures) c.in_ok-judge.ensures);
      keys = λ name.
          c.in_ok-fresh.ensures.added [] name ∙ ap₂ ◌||◌ (known.keys name) (ap (λ n. bytes_eq n name) named)
          ∙ sym (any_more (is_org name) xs i x c.loop-row-test.true c.loop-row-item.is);
    }
