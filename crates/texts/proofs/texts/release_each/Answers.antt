use Rattle.texts.proofs.Outside.{◌≡◌, ◌+◌, [], IsSome, sym, ◌∙◌, ap, subst, arith, column, state, AnyRows, Moves, page_released, page_bytes}
use Rattle.texts.specs.Inner.Calls.{row_at, name_at, released_by, WereReleased}
use Rattle.texts.proofs.Many.{writes_more}
use Rattle.texts.proofs.OnePiece.{released_there}
use Rattle.texts.proofs.Releasing.{index_same, released_more, were_released_more}
use Rattle.texts.proofs.texts.release_each.Goals as goal

pub places-preserved : goal.places-preserved
places-preserved g c =
    let rows = c.args.rows.now in
    let place = c.places.place in
    let name = name_at rows place in
    let s0 = state g.S.Store c.args.tx.now.conn.now in
    let s1 = state g.S.Store c.places.tx.conn.now in
    let s2 = state g.S.Store c.release.new.tx.conn.now in
    let at : row_at rows place ≡ c.index-rows-place.result = index_same rows place [] c.index-rows-place.result (omega (arith, c.places-test.true, c.requires.as_many)) ∙ sym c.index-rows-place.is in
    let one = rw (c.in_ok-id.ensures.name, ← at) at c.in_ok-release.ensures in (
      one.steps.same_reference ∙ c.places.invariant.0,
      writes_more (released_by rows place) (page_released name.key name.twin) (released_by rows (place + 1)) (WereReleased rows place) (λ t. IsSome (page_bytes name.key name.twin t)) (WereReleased rows (place + 1)) s0 s1 s2
          (released_more rows place) (λ t before there. were_released_more rows place t (ap (λ r. column r 2) at ∙ c.in_ok-id.ensures.place) before there) c.places.invariant.1 one.steps.so_far one.steps.shield
          (λ clean inside. let moved = (one.steps.changed clean inside).0 in (moved, released_there name.key name.twin s1 s2 moved (one.releases clean inside))),
    )

pub returns-clause-steps : goal.returns-clause-steps
returns-clause-steps g c open_is =
    let s0 = state g.S.Store c.args.tx.now.conn.now in
    let s1 = state g.S.Store c.places.tx.conn.now in
    let end : c.places.place ≡ c.args.places = omega (arith, c.places.auto.place-end, c.places-test.false) in
    record {
      same_reference = c.places.invariant.0;
      changed = λ clean inside. (subst (λ m. Moves AnyRows (released_by c.args.rows.now m) s0 s1) end (c.places.invariant.1.moves clean open_is inside), tt);
      so_far = c.places.invariant.1.so_far;
      shield = c.places.invariant.1.shield;
    }

pub returns-clause-there : goal.returns-clause-there
returns-clause-there g c open_is clean inside t holds =
    let end : c.places.place ≡ c.args.places = omega (arith, c.places.auto.place-end, c.places-test.false) in
    subst (λ m. WereReleased c.args.rows.now m t) end (c.places.invariant.1.reported clean open_is inside t holds)
