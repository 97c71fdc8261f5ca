use Rattle.checks.proofs.Outside.{◌&&◌, ◌||◌, ◌==◌, Some, ap₂, sym, ◌∙◌, bytes_eq, is_place, any_more}
use Rattle.checks.specs.declared.found.FaultKind.TheVariants as kind
use Rattle.checks.specs.Judging.{fault_of}
use Rattle.checks.specs.Faults.{place_fault}
use Rattle.checks.specs.Inner.Keys.{has_key}
use Rattle.checks.proofs.JudgingLemmas.{judges_named}
use Rattle.checks.proofs.KeyLemmas.{bytes_turned, number_turned, regrouped, fresh_by}
use Rattle.checks.proofs.RowLists.{apart_judged}
use Rattle.checks.proofs.keys.vpages_apart.Goals as goal

pub loop-row-preserved : goal.loop-row-preserved
loop-row-preserved c =
    let x = c.loop-row-item.result in
    let xs = c.args.vpages.now in
    let i = c.loop-row.row-index in
    let known = c.loop-row.invariant in
    let of_org = c.as_bytes.ensures.value ∙ c.as_str-org.ensures in
    let of_ws = c.as_bytes-in-loop-row.ensures.value ∙ c.as_str-ws.ensures in
    record {
      judged =
          apart_judged (λ a b. is_place a.1.org a.1.ws a.1.number a.1.place b)
          (λ y. place_fault kind.Twice y.1)
          (λ a b. ap₂ ◌&&◌ (bytes_turned b.1.org a.1.org) (ap₂ ◌&&◌ (bytes_turned b.1.ws a.1.ws) (ap₂ ◌&&◌ (number_turned b.1.number a.1.number) (number_turned b.1.place a.1.place))))
          xs i x c.in_ok-fresh.fresh c.args.found.now c.loop-row.found c.judge.new.self c.loop-row-test.true c.loop-row-item.is
          (fresh_by c.in_ok-fresh.fresh (λ m n. has_key c.loop-row.keys m n x.1.number x.1.place) c.as_bytes.result.now c.as_bytes-in-loop-row.result.now x.1.org x.1.ws _ c.in_ok-fresh.ensures.fresh of_org of_ws
          (known.keys x.1.org x.1.ws x.1.number x.1.place))
          known.judged (judges_named c.loop-row.found c.judge.new.self (λ j. fault_of kind.Twice (c.as_str-org.ensures j) (c.as_str-ws.ensures j) (Some x.1.number)) c.in_ok-judge.ensures);
      keys = λ org ws n place.
          c.in_ok-fresh.ensures.added org ws n place ∙ ap₂ ◌||◌ (known.keys org ws n place)
          (ap₂ (λ a b. x.1.place == place && (x.1.number == n && (bytes_eq a org && bytes_eq b ws))) of_org of_ws ∙ regrouped (x.1.place == place) (x.1.number == n) (bytes_eq x.1.org org) (bytes_eq x.1.ws ws))
          ∙ sym (any_more (is_place org ws n place) xs i x c.loop-row-test.true c.loop-row-item.is);
    }
