use Rattle.std.proofs.Common.{◌∙◌, true≢false, sym, below_more}
use Rattle.checks.proofs.places.run_of.Goals as goal

pub returns-then-not-has_size : goal.returns-then-not-has_size
returns-then-not-has_size c heads vpages has = record {
  full = c.loop-place.invariant heads vpages has;
  ends = λ _ law. true≢false (sym ((c.has_size.ensures heads vpages has).1 law) ∙ c.if-not-has_size.true);
}

pub loop-place-preserved : goal.loop-place-preserved
loop-place-preserved c heads vpages has = below_more _ _ (c.loop-place.invariant heads vpages has) ((c.has_size.ensures heads vpages has).0 c.if-not-has_size.false)
