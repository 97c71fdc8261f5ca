use Rattle.checks.proofs.Outside.{◌∙◌, Bool, [], Some, None, cond, ap, option_or}
use Rattle.checks.specs.Inner.Firsts.{value_at}
use Rattle.checks.specs.Pages.{is_head}
use Rattle.checks.proofs.FirstsLemmas.{empty_at}
use Rattle.checks.proofs.PlacesLemmas.{page_parts, first_more}
use Rattle.checks.proofs.places.page_sizes_of.Goals as goal

pub loop-head-init : goal.loop-head-init
loop-head-init c key twin = empty_at key [] twin 0 c.new-sizes.result c.new-sizes.ensures.empty

pub loop-head-preserved : goal.loop-head-preserved
loop-head-preserved c key twin =
    let head = c.head-item.result in
    let old = value_at key [] twin 0 c.loop-head.sizes in
    first_more (is_head key twin) (λ h. h.size) c.args.heads.now c.loop-head.head-index head old _ c.loop-head-test.true c.head-item.is (c.loop-head.invariant key twin)
    (c.in_ok-keep_first.ensures key [] twin 0 ∙ ap (λ (b : Bool). option_or old (cond b (Some head.size) None)) (page_parts c.page_key.result head.key key head.twin twin c.page_key.ensures))
