use Rattle.std.proofs.Common.{◌∙◌, sym}
use Rattle.checks.proofs.FirstsLemmas.{at_key}
use Rattle.checks.proofs.PlacesLemmas.{placed_below, placed_nowhere}
use Rattle.checks.proofs.places.is_placed.Goals as goal

pub returns-in-Some : goal.returns-in-Some
returns-in-Some c versions has =
    let x = c.args.row.now in
    placed_below versions x c.in-Some.size.now c.pages_of.result (sym (has x.org x.ws x.number) ∙ at_key x.org x.ws x.number 0 c.place_key.result c.args.sizes.now c.place_key.ensures ∙ sym c.in-Some.ensures.value) c.pages_of.ensures

pub returns-in-None : goal.returns-in-None
returns-in-None c versions has =
    let x = c.args.row.now in
    placed_nowhere versions x (sym (has x.org x.ws x.number) ∙ at_key x.org x.ws x.number 0 c.place_key.result c.args.sizes.now c.place_key.ensures ∙ sym c.in-None.ensures.value)
