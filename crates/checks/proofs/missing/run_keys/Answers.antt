use Rattle.checks.proofs.Outside.{◌∙◌, ◌||◌, ap₂, sym, is_run_row, any_more}
use Rattle.checks.specs.Inner.Firsts.{IsKeyOf}
use Rattle.checks.proofs.PlacesLemmas.{version_parts}
use Rattle.checks.proofs.missing.run_keys.Goals as goal

-- the key of one run more was added
pub loop-row-preserved : goal.loop-row-preserved
loop-row-preserved c org ws n =
    let row = c.row-item.result in
    let its = c.place_key.ensures in
    let key : IsKeyOf c.place_key.result row.1.org row.1.name row.1.it.number 0 = record { its_first = its.its_first; its_second = its.its_second; its_number = its.its_number ∙ c.from-number.ensures ∙ c.get.ensures.value; its_place = its.its_place } in
    c.in_ok-add.ensures.added org ws n 0 ∙ ap₂ ◌||◌ (c.loop-row.invariant org ws n) (version_parts c.place_key.result row.1.org row.1.name org ws row.1.it.number n key)
    ∙ sym (any_more (is_run_row org ws n) c.args.runs.now c.loop-row.row-index row c.loop-row-test.true c.row-item.is)
