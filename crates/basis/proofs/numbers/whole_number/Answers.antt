use Rattle.std.proofs.Common.{◌≡◌, ◌∙◌, true}
use Rattle.basis.specs.Inner.Numbers.{begins_plainly}
use Rattle.basis.proofs.NumberLemmas.{whole_parsed}
use Rattle.basis.proofs.numbers.whole_number.Goals as goal

-- what `parse` answers of a text that begins plainly
pub returns : goal.returns
returns c =
    let plain : begins_plainly c.args.text.now ≡ true = cc in
    c.ok.ensures.value ∙ whole_parsed c.args.text.now c.parse.result plain c.parse.ensures.value.0
