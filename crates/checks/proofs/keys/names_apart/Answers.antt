use Rattle.checks.proofs.Outside.{◌&&◌, ◌||◌, ap, ap₂, sym, ◌∙◌, bytes_eq, is_of, any_more}
use Rattle.checks.specs.declared.found.FaultKind.TheVariants as kind
use Rattle.checks.specs.Faults.{name_fault}
use Rattle.checks.specs.Inner.Keys.{has_key}
use Rattle.checks.proofs.JudgingLemmas.{judges_named}
use Rattle.checks.proofs.KeyLemmas.{bytes_turned, fresh_by}
use Rattle.checks.proofs.RowLists.{apart_judged}
use Rattle.checks.proofs.keys.names_apart.Goals as goal

pub loop-row-preserved : goal.loop-row-preserved
loop-row-preserved g c =
    let x = c.loop-row-item.result in
    let xs = c.args.rows.now in
    let i = c.loop-row.row-index in
    let known = c.loop-row.invariant in
    let of_org = c.as_bytes.ensures.value ∙ c.as_str-org.ensures in
    let of_name = c.as_bytes-in-loop-row.ensures.value ∙ c.as_str-name.ensures in
    record {
      judged =
          apart_judged (λ a b. is_of a.1.org a.1.name b)
          (λ x. name_fault kind.Twice x.1.org x.1.name)
          (λ a b. ap₂ ◌&&◌ (bytes_turned b.1.org a.1.org) (bytes_turned b.1.name a.1.name))
          xs i x c.in_ok-fresh.fresh c.args.found.now c.loop-row.found c.judge.new.self c.loop-row-test.true c.loop-row-item.is
          (fresh_by c.in_ok-fresh.fresh (λ m n. has_key c.loop-row.keys m n 0 0) c.as_bytes.result.now c.as_bytes-in-loop-row.result.now x.1.org x.1.name _ c.in_ok-fresh.ensures.fresh of_org of_name (known.keys x.1.org x.1.name))
          known.judged (judges_named c.loop-row.found c.judge.new.self (λ j. name_fault kind.Twice (c.as_str-org.ensures j) (c.as_str-name.ensures j)) c.in_ok-judge.ensures);
      keys = λ m n.
          c.in_ok-fresh.ensures.added m n ∙ ap₂ ◌||◌ (known.keys m n) (ap₂ ◌&&◌ (ap (λ l. bytes_eq l m) of_org) (ap (λ l. bytes_eq l n) of_name))
          ∙ sym (any_more (is_of m n) xs i x c.loop-row-test.true c.loop-row-item.is);
    }
