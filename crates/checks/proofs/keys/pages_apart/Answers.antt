use Rattle.checks.proofs.Outside.{◌&&◌, ◌||◌, ◌==◌, [], None, not, ap, ap₂, sym, ◌∙◌, and_comm, bytes_eq, any_more}
use Rattle.checks.specs.declared.found.FaultKind.TheVariants as kind
use Rattle.checks.specs.Judging.{fault_of}
use Rattle.checks.specs.Inner.Keys.{has_key}
use Rattle.checks.proofs.KeyLemmas.{bytes_turned, number_turned}
use Rattle.checks.proofs.RowLists.{apart_judged}
use Rattle.checks.proofs.keys.pages_apart.Goals as goal

pub loop-head-preserved : goal.loop-head-preserved
loop-head-preserved c =
    let x = c.head-item.result in
    let xs = c.args.heads.now in
    let i = c.loop-head.head-index in
    let known = c.loop-head.invariant in
    let of_key = c.as_slice.ensures in
    record {
      judged =
          apart_judged (λ a b. bytes_eq b.key a.key && b.twin == a.twin)
          (λ x. fault_of kind.Twice [] [] None)
          (λ a b. ap₂ ◌&&◌ (bytes_turned b.key a.key) (number_turned b.twin a.twin))
          xs i x c.in_ok-fresh.fresh c.args.found.now c.loop-head.found c.judge.new.self c.loop-head-test.true c.head-item.is
          (c.in_ok-fresh.ensures.fresh ∙ ap not (ap (λ k. has_key c.loop-head.keys [] k x.twin 0) of_key ∙ known.keys x.key x.twin)) known.judged c.in_ok-judge.ensures;
      keys = λ key twin.
          c.in_ok-fresh.ensures.added [] key twin 0 ∙ ap₂ ◌||◌ (known.keys key twin) (and_comm (x.twin == twin) _ ∙ ap (λ k. bytes_eq k key && x.twin == twin) of_key)
          ∙ sym (any_more (λ y. bytes_eq y.key key && y.twin == twin) xs i x c.loop-head-test.true c.head-item.is);
    }
