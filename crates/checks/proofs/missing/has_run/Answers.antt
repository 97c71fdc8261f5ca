use Rattle.std.proofs.Common.{◌∙◌}
use Rattle.checks.specs.Inner.Keys.{has_key}
use Rattle.checks.proofs.missing.has_run.Goals as goal

pub returns : goal.returns
returns c runs keyed =
    let x = c.args.row.now in
    let its = c.place_key.ensures in
    c.has.ensures ∙ (λ i. has_key c.args.keys.now (its.its_first i) (its.its_second i) (its.its_number i) (its.its_place i)) ∙ keyed x.org x.name c.args.number
