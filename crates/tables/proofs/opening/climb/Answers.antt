use Rattle.tables.proofs.Outside.{◌≡◌, ◌+◌, subst, arith, state, SCHEMA_VERSION}
use Rattle.tables.specs.Inner.Making.{Climbs}
use Rattle.tables.proofs.Climbing.{climbs_then}
use Rattle.tables.proofs.opening.climb.Goals as goal

pub loop-at-preserved : goal.loop-at-preserved
loop-at-preserved g c =
    let so_far = c.loop-at.invariant.1 in
    let at = c.loop-at.at in
    let before = c.raise.ensures.ends.so_far in (
      c.raise.ensures.ends.idle,
      record {
        so_far = λ clean. so_far.so_far (before clean);
        shield = λ s. c.raise.ensures.ends.shield (so_far.shield s);
        climbs = λ clean. climbs_then c.args.from at (at + 1) (state g.S.Store c.args.conn.now) (state g.S.Store c.loop-at.conn) (state g.S.Store c.raise.new.conn) (so_far.climbs (before clean)) (c.in_ok-raise.ensures.done clean).0.0;
        is_open = λ clean was. (c.in_ok-raise.ensures.done clean).0.1;
      },
      λ same. absurd (omega (arith, same, c.loop-at.auto.at)),
    )

pub returns-clause-climbed : goal.returns-clause-climbed
returns-clause-climbed g c clean =
    let so_far = c.loop-at.invariant.1 in (
      record {
        climbs = λ most.
            let end : c.loop-at.at ≡ SCHEMA_VERSION = omega (arith, most, c.loop-at.auto.at-end, c.loop-at-test.false) in
            subst (λ k. Climbs c.args.from k (state g.S.Store c.args.conn.now) (state g.S.Store c.loop-at.conn)) end (so_far.climbs clean);
        is_open = λ was. so_far.is_open clean was;
      },
      tt,
    )
