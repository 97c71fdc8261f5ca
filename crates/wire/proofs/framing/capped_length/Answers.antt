use Rattle.std.proofs.Common.{◌∙◌, sym}
use Rattle.wire.specs.declared.framing.TheConstants.{LENGTH_CAP}
use Rattle.wire.proofs.LengthLemmas.{digits_more, value_more}
use Rattle.wire.proofs.framing.capped_length.Goals as goal

pub digits-preserved : goal.digits-preserved
digits-preserved c =
    let i = c.digits.byte-index in
    record {
      digits = digits_more c.args.text.now i c.digits-test.true c.digits.invariant.digits (sym c.is_ascii_digit.ensures.value ∙ c.if-not-is_ascii_digit.false);
      value = c.min-number.ensures ∙ value_more LENGTH_CAP c.args.text.now i c.digits.number c.digits-test.true c.digits.invariant.value c.if-not-is_ascii_digit.ensures.cases;
    }
