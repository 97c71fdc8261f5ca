use Rattle.texts.proofs.Outside.{ℕ, List, ◌∙◌, subst, state, clean_before, IsKeyFor, page_put, still_holds, step_after, steps_by, steps_then, steps_are}
use Rattle.texts.specs.Texts.{piece_at, place_added}
use Rattle.texts.specs.Inner.Calls.{piece_placed}
use Rattle.texts.proofs.Many.{when_done}
use Rattle.texts.proofs.OnePiece.{placed_as_reported, reported_fits}
use Rattle.texts.proofs.texts.add_nth.Goals as goal

pub returns-clause-adds : goal.returns-clause-adds
returns-clause-adds g c =
    let org = c.args.org.now in
    let ws = c.args.ws.now in
    let n = c.args.number in
    let place = c.args.place in
    let piece = piece_at c.args.text.now c.args.nth in
    let own = c.in_ok-id.ensures.puts.0 in
    let put = c.in_ok-id.ensures.puts.1 in
    let key = c.as_slice.result.now in
    let twin = c.in_ok-id.id.twin in
    let unchanged = c.in_ok-found.ensures in
    let s0 = state g.S.Store c.args.tx.now.conn.now in
    let s1 = state g.S.Store c.look_at.new.tx.conn.now in
    let before = clean_before (state g.S.Store c.put_nth.new.tx.conn.now) (state g.S.Store c.add.new.tx.conn.now) _ c.add.ensures.survives in (
      own,
      record {
        steps = step_after g.S.Store (piece_placed own org ws n place piece) c.args.tx.now c.look_at.new.tx c.add.new.tx c.add.result unchanged.same_reference (λ clean. (unchanged.sees clean).1.0) unchanged.so_far unchanged.shield
            (steps_are g.S.Store (λ t. place_added org ws n place key twin (page_put own piece t)) (piece_placed own org ws n place piece) c.look_at.new.tx c.add.new.tx c.add.result
            (λ clean t holds. placed_as_reported own org ws n place piece key twin t (c.as_slice.ensures ∙ put.named.0) (put.reports (before clean) t holds))
            (steps_then g.S.Store (page_put own piece) (place_added org ws n place key twin) c.look_at.new.tx c.put_nth.new.tx c.add.new.tx c.in_ok-id.id c.add.result put.steps (steps_by g.S.Store (place_added org ws n place key twin) c.put_nth.new.tx c.add.new.tx c.add.result c.add.ensures)));
        fits = λ clean. when_done c.add.result (λ t holds.
            reported_fits own piece twin t (put.reports (before clean) t (still_holds s0 s1 (unchanged.sees (put.steps.so_far (before clean))).1.0 t holds)) put.named.1);
        keyed = λ clean. when_done c.add.result (λ t holds.
            subst (λ (k : List ℕ). IsKeyFor g.K.PageKey.key_of piece k t) put.named.0 (c.in_ok-id.ensures.keyed (before clean) t (still_holds s0 s1 (unchanged.sees (put.steps.so_far (before clean))).1.0 t holds)));
      },
    )
