use Rattle.std.proofs.Common.{◌≡◌, ◌∙◌, Some, sym}
use Rattle.checks.specs.Inner.Firsts.{IsKeyOf, value_at}
use Rattle.checks.proofs.FirstsLemmas.{at_key}
use Rattle.checks.proofs.places.known_run.Goals as goal

pub returns-in-Some-clause-run : goal.returns-in-Some-clause-run
returns-in-Some-clause-run c heads vpages has known =
    let x = c.args.version.now in
    let its = c.place_key-key.ensures in
    let key : IsKeyOf c.place_key-key.result x.org x.name x.it.number 0 = record { its_first = its.its_first; its_second = its.its_second; its_number = its.its_number ∙ c.from-number.ensures ∙ c.get.ensures.value; its_place = its.its_place } in
    let at : value_at x.org x.name x.it.number 0 c.args.runs.now ≡ Some c.in-Some.run' = at_key x.org x.name x.it.number 0 c.place_key-key.result c.args.runs.now key ∙ sym c.get-2.ensures.value ∙ sym c.in-Some.ensures in
    rw at at (known x.org x.name x.it.number)
