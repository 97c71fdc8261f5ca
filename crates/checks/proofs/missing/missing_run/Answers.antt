use Rattle.std.proofs.Common.{◌∙◌, sym, arith}
use Rattle.checks.proofs.MissingLemmas.{none_below, one_more_run}
use Rattle.checks.proofs.missing.missing_run.Goals as goal

pub loop-number-init : goal.loop-number-init
loop-number-init c = record { least = omega arith; lower = λ runs keyed. none_below runs c.args.row.now }

pub returns-then-not-has_run : goal.returns-then-not-has_run
returns-then-not-has_run c runs keyed = record {
  is_number = c.loop-number.invariant.least;
  given = c.loop-number-test.true;
  missing = sym (c.has_run.ensures runs keyed) ∙ c.if-not-has_run.true;
  lower = c.loop-number.invariant.lower runs keyed;
}

pub loop-number-preserved : goal.loop-number-preserved
loop-number-preserved c =
    let least = c.loop-number.invariant.least in
    record {
      least = omega (arith, least);
      lower = λ runs keyed. one_more_run runs c.args.row.now c.loop-number.number (c.loop-number.invariant.lower runs keyed) (sym (c.has_run.ensures runs keyed) ∙ c.if-not-has_run.false);
    }

pub returns : goal.returns
returns c runs keyed n least below =
    let past = c.loop-number-test.false in
    c.loop-number.invariant.lower runs keyed n least (omega (arith, below, past))
