use Rattle.checks.proofs.Outside.{◌≡◌, [], true, refl, ◌∙◌, list_any, is_org}
use Rattle.checks.specs.declared.found.FaultKind.TheVariants as kind
use Rattle.checks.specs.Judging.{Breaks}
use Rattle.checks.specs.Faults.{name_fault}
use Rattle.checks.specs.Inner.Keys.{has_key}
use Rattle.checks.proofs.JudgingLemmas.{judges_where, judges_named}
use Rattle.checks.proofs.KeyLemmas.{reported_by}
use Rattle.checks.proofs.RowLists.{all_judged}
use Rattle.checks.proofs.owners.all_of_orgs.Goals as goal

pub loop-row-preserved : goal.loop-row-preserved
loop-row-preserved g c =
    let x = c.loop-row-item.result in
    let reported =
    reported_by c.has_texts-known.result (λ m n. has_key c.in_ok-keys.keys m n 0 0) [] c.as_bytes.result.now [] x.1.org _
    c.has_texts-known.ensures refl (c.as_bytes.ensures.value ∙ c.as_str-org.ensures) (c.in_ok-keys.ensures x.1.org) in
    all_judged (λ y. Breaks (list_any (is_org y.1.org) c.args.orgs.now ≡ true) (name_fault kind.Ownerless y.1.org y.1.name)) (λ y. list_any (is_org y.1.org) c.args.orgs.now ≡ true) c.args.rows.now c.loop-row.row-index x c.args.found.now c.loop-row.found c.judge.new.self c.loop-row-test.true c.loop-row-item.is
    c.loop-row.invariant (judges_where reported (judges_named c.loop-row.found c.judge.new.self (λ j. name_fault kind.Ownerless (c.as_str-org.ensures j) (c.as_str-name.ensures j)) c.in_ok-judge.ensures))
