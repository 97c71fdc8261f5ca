use Rattle.checks.proofs.Outside.{◌∙◌, Bool, Some, None, cond, ap, option_or, is_version}
use Rattle.checks.specs.Inner.Firsts.{value_at, IsKeyOf}
use Rattle.checks.proofs.FirstsLemmas.{empty_at}
use Rattle.checks.proofs.PlacesLemmas.{version_parts, first_more}
use Rattle.checks.proofs.places.sizes_of.Goals as goal

pub loop-row-init : goal.loop-row-init
loop-row-init c org ws n = empty_at org ws n 0 c.new-sizes.result c.new-sizes.ensures.empty

pub loop-row-preserved : goal.loop-row-preserved
loop-row-preserved c org ws n =
    let old = value_at org ws n 0 c.loop-row.sizes in
    let row = c.row-item.result in
    let its = c.place_key.ensures in
    let key : IsKeyOf c.place_key.result row.1.org row.1.name row.1.it.number 0 = record { its_first = its.its_first; its_second = its.its_second; its_number = its.its_number ∙ c.from-number.ensures ∙ c.get.ensures.value; its_place = its.its_place } in
    first_more (is_version org ws n) (λ x. x.1.it.size) c.args.versions.now c.loop-row.row-index row old _ c.loop-row-test.true c.row-item.is (c.loop-row.invariant org ws n)
    (c.in_ok-keep_first.ensures org ws n 0 ∙ ap (λ (b : Bool). option_or old (cond b (Some row.1.it.size) None)) (version_parts c.place_key.result row.1.org row.1.name org ws row.1.it.number n key))
