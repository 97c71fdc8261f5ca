use Rattle.checks.proofs.Outside.{◌∙◌, ◌+◌, ◌≤◌, ℕ, Bool, [], cond, ap, arith, get, names_page}
use Rattle.std.specs.Prelude.{Option, unwrap_or}
use Rattle.checks.specs.Inner.Firsts.{key_cmp, value_at}
use Rattle.checks.proofs.FirstsLemmas.{empty_at}
use Rattle.checks.proofs.PlacesLemmas.{page_parts, count_more, few}
use Rattle.checks.proofs.places.counts_of.Goals as goal

pub loop-row-init : goal.loop-row-init
loop-row-init c key twin = ap (λ (o : Option ℕ). unwrap_or o 0) (empty_at key [] twin 0 c.new-counts.result c.new-counts.ensures.empty)

pub add_one-requires : goal.add_one-requires
add_one-requires c =
    let less : unwrap_or (get key_cmp c.loop-row.counts c.page_key.result) 0 ≤ c.loop-row.row-index = few c.args.vpages.now c.loop-row.row-index c.row-item.result.1 c.page_key.result c.loop-row.counts c.loop-row-test.true c.loop-row.invariant c.page_key.ensures in
    omega (arith, less)

pub loop-row-preserved : goal.loop-row-preserved
loop-row-preserved c key twin =
    let row = c.row-item.result in
    let old = unwrap_or (value_at key [] twin 0 c.loop-row.counts) 0 in
    count_more (names_page key twin) c.args.vpages.now c.loop-row.row-index row old _ c.loop-row-test.true c.row-item.is (c.loop-row.invariant key twin)
    (c.in_ok-add_one.ensures key [] twin 0 ∙ ap (λ (b : Bool). old + cond b 1 0) (page_parts c.page_key.result row.1.key key row.1.twin twin c.page_key.ensures))
