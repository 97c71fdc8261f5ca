use Rattle.checks.proofs.Outside.{◌∙◌, ℕ, Bool, Some, None, cond, ap, option_or, is_place}
use Rattle.std.specs.Prelude.{Option}
use Rattle.checks.specs.Inner.Keys.{is_key}
use Rattle.checks.specs.Inner.Firsts.{value_at}
use Rattle.checks.specs.Pages.{named_size_in}
use Rattle.checks.proofs.FirstsLemmas.{empty_at}
use Rattle.checks.proofs.PlacesLemmas.{place_parts, first_more}
use Rattle.checks.proofs.places.pieces_of.Goals as goal

pub loop-row-init : goal.loop-row-init
loop-row-init c heads has org ws n place = empty_at org ws n place c.new-pieces.result c.new-pieces.ensures.empty

pub loop-row-preserved : goal.loop-row-preserved
loop-row-preserved c heads has org ws n place =
    let row = c.row-item.result in
    let old = value_at org ws n place c.loop-row.pieces in
    let here = is_key org ws n place c.place_key.result in
    first_more (is_place org ws n place) (named_size_in heads) c.args.vpages.now c.loop-row.row-index row old _ c.loop-row-test.true c.row-item.is (c.loop-row.invariant heads has org ws n place)
    (c.in_ok-keep_first.ensures org ws n place ∙ ap (λ (piece : Option ℕ). option_or old (cond here (Some piece) None)) (c.page_size.ensures heads has)
    ∙ ap (λ (b : Bool). option_or old (cond b (Some (named_size_in heads row)) None)) (place_parts c.place_key.result row.1.org row.1.ws org ws row.1.number row.1.place n place c.place_key.ensures))
