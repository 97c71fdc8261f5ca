use Rattle.texts.proofs.Outside.{◌<◌, ◌+◌, length, true, Some, sym, ap, ◌∙◌, subst, state, one_query, unchanged_then, still_holds}
use Rattle.texts.specs.Texts.{pages_for, piece_at, are_pieces, AreThere}
use Rattle.texts.specs.Inner.Calls.{is_piece_of}
use Rattle.texts.proofs.Many.{reads_more}
use Rattle.texts.proofs.NextPiece.{place_of_start, one_differs, same_more, same_there}
use Rattle.texts.proofs.texts.same_text.Goals as goal

pub returns-then-not-branch-clause-queries : goal.returns-then-not-branch-clause-queries
returns-then-not-branch-clause-queries g c =
    let org = c.args.org.now in
    let ws = c.args.ws.now in
    let n = c.args.number in
    let text = c.args.text.now in
    let place = c.places.place in
    let s0 = state g.S.Store c.args.conn.now in
    let s1 = state g.S.Store c.places.conn in
    let s2 = state g.S.Store c.same_piece.new.conn in
    let some = c.places.invariant.1 in
    let before = c.in_ok-same_piece.ensures.so_far in
    record {
      mode = λ is. c.in_ok-same_piece.ensures.mode (c.places.invariant.0 is);
      sees = λ clean.
          let unchanged = some.unchanged (before clean) in
          let got = rw (c.of_byte-at.ensures, place_of_start place) at (c.in_ok-same_piece.ensures.gets clean) in (
            λ t holds.
                one_differs org ws n t text place c.piece_at-piece.result.now c.in_ok-same_piece.field-0 c.piece_at-piece.ensures c.if-not-branch.true (got.0 t (still_holds s0 s1 unchanged t holds)) (pages_for (length text))
                (subst (λ m. place < m) c.pages_for-pages.ensures c.places-test.true),
            (unchanged_then s0 s1 s2 unchanged (one_query s1 s2 got.1.0), tt),
          );
      so_far = λ clean. some.so_far (before clean);
      shield = λ s. c.in_ok-same_piece.ensures.shield (some.shield s);
    }

-- one more piece that agrees
pub places-preserved : goal.places-preserved
places-preserved g c =
    let org = c.args.org.now in
    let ws = c.args.ws.now in
    let n = c.args.number in
    let text = c.args.text.now in
    let place = c.places.place in
    let s0 = state g.S.Store c.args.conn.now in
    let s1 = state g.S.Store c.places.conn in
    let s2 = state g.S.Store c.same_piece.new.conn in (
      λ is. c.in_ok-same_piece.ensures.mode (c.places.invariant.0 is),
      reads_more (are_pieces org ws n text place) (are_pieces org ws n text (place + 1)) (AreThere org ws n place) (AreThere org ws n (place + 1)) (is_piece_of org ws n place (piece_at text place)) s0 s1 s2 true true true
          (λ t is one. same_more org ws n t text place is one) (λ t there one. same_there org ws n t text place there one) c.places.invariant.1 c.in_ok-same_piece.ensures.so_far c.in_ok-same_piece.ensures.shield
          (λ clean. let got = rw (c.of_byte-at.ensures, place_of_start place) at (c.in_ok-same_piece.ensures.gets clean) in (λ t holds. ap (λ p. is_piece_of org ws n place p t) (sym c.piece_at-piece.ensures) ∙ got.0 t holds ∙ ap Some c.if-not-branch.false, got.1.0)),
    )
