use Rattle.std.proofs.Common.{◌∙◌, sym}
use Rattle.checks.specs.Inner.Firsts.{IsKeyOf}
use Rattle.checks.specs.Pages.{piece_in}
use Rattle.checks.proofs.FirstsLemmas.{at_key}
use Rattle.checks.proofs.PlacesLemmas.{size_there, size_nowhere}
use Rattle.checks.proofs.places.has_size.Goals as goal

pub returns-in-Some : goal.returns-in-Some
returns-in-Some c heads vpages has =
    let x = c.args.version.now in
    let its = c.place_key.ensures in
    let key : IsKeyOf c.place_key.result x.org x.name x.it.number c.args.place = record { its_first = its.its_first; its_second = its.its_second; its_number = its.its_number ∙ c.from-number.ensures ∙ c.get.ensures.value; its_place = its.its_place } in
    size_there (piece_in x.org x.name x.it.number c.args.place heads vpages) c.in-Some.piece.now c.args.size c.eq.result
    (sym (has x.org x.name x.it.number c.args.place) ∙ at_key x.org x.name x.it.number c.args.place c.place_key.result c.args.pieces.now key ∙ sym c.in-Some.ensures.value) c.eq.ensures

pub returns-in-None : goal.returns-in-None
returns-in-None c heads vpages has =
    let x = c.args.version.now in
    let its = c.place_key.ensures in
    let key : IsKeyOf c.place_key.result x.org x.name x.it.number c.args.place = record { its_first = its.its_first; its_second = its.its_second; its_number = its.its_number ∙ c.from-number.ensures ∙ c.get.ensures.value; its_place = its.its_place } in
    size_nowhere (piece_in x.org x.name x.it.number c.args.place heads vpages) c.args.size
    (sym (has x.org x.name x.it.number c.args.place) ∙ at_key x.org x.name x.it.number c.args.place c.place_key.result c.args.pieces.now key ∙ sym c.in-None.ensures.value)
