use Rattle.texts.proofs.Outside.{◌≡◌, ◌<◌, ◌+◌, ℕ, List, [], length, refl, ◌∙◌, subst, arith, state, AnyRows, Moves, IsKeyFor, twin_limit, twin_for}
use Rattle.texts.specs.Texts.{pages_for, piece_at, pieces_added, TwinsFit, KeysFit}
use Rattle.texts.specs.Inner.Calls.{piece_placed}
use Rattle.texts.proofs.Many.{writes_none, writes_more}
use Rattle.texts.proofs.NextPiece.{place_of_start, keys_to, added_more, fit_more, keyed_more}
use Rattle.texts.proofs.texts.add_text.Goals as goal

pub places-init : goal.places-init
places-init g c =
    let s0 = state g.S.Store c.args.tx.now.conn.now in
    let none : ℕ → List ℕ = λ place. [] in
    let org = c.args.org.now in
    let ws = c.args.ws.now in
    let n = c.args.number in
    let text = c.args.text.now in
    (refl, c.new-ahead.ensures g.K.PageKey.key_of text, (none, writes_none (pieces_added none org ws n text 0) (λ t. TwinsFit none org ws n text 0 t × KeysFit g.K.PageKey.key_of none org ws n text 0 t) s0 (λ t. refl) (λ t. (tt, tt))))

pub places-preserved : goal.places-preserved
places-preserved g c =
    let org = c.args.org.now in
    let ws = c.args.ws.now in
    let n = c.args.number in
    let text = c.args.text.now in
    let place = c.places.place in
    let piece = piece_at text place in
    let keys = c.places.invariant.2.0 in
    let key = c.in_ok-add_nth.ensures.adds.0 in
    let key_of = g.K.PageKey.key_of in
    let one = rw (c.of_byte-at.ensures, place_of_start place) at (c.in_ok-add_nth.ensures.adds.1) in
    let s0 = state g.S.Store c.args.tx.now.conn.now in
    let s1 = state g.S.Store c.places.tx.conn.now in
    let s2 = state g.S.Store c.add_nth.new.tx.conn.now in (
      one.steps.same_reference ∙ c.places.invariant.0,
      c.in_ok-add_nth.ensures.known_ahead,
      (
        keys_to keys place key,
        writes_more (pieces_added keys org ws n text place) (piece_placed key org ws n place piece) (pieces_added (keys_to keys place key) org ws n text (place + 1))
            (λ t. TwinsFit keys org ws n text place t × KeysFit key_of keys org ws n text place t) (λ t. (twin_for key piece t < twin_limit) × IsKeyFor key_of piece key t)
            (λ t. TwinsFit (keys_to keys place key) org ws n text (place + 1) t × KeysFit key_of (keys_to keys place key) org ws n text (place + 1) t) s0 s1 s2 (λ t. added_more org ws n t keys key text place)
            (λ t fit low. (
              fit_more org ws n t keys key text place fit.0 low.0,
              keyed_more org ws n t keys key text place key_of fit.1 low.1,
            )) c.places.invariant.2.1 one.steps.so_far one.steps.shield
            (λ clean inside. ((one.steps.changed clean inside).0, λ t holds. (one.fits clean t holds, one.keyed clean t holds))),
      ),
    )

pub returns-clause-adds : goal.returns-clause-adds
returns-clause-adds g c =
    let org = c.args.org.now in
    let ws = c.args.ws.now in
    let n = c.args.number in
    let text = c.args.text.now in
    let keys = c.places.invariant.2.0 in
    let some = c.places.invariant.2.1 in
    let s0 = state g.S.Store c.args.tx.now.conn.now in
    let s1 = state g.S.Store c.places.tx.conn.now in
    let last : c.places.place ≡ c.pages_for-pages.result = omega (arith, c.places.auto.place-end, c.places-test.false) in
    let end : c.places.place ≡ pages_for (length text) = last ∙ c.pages_for-pages.ensures in (
      keys,
      λ open_is. record {
        steps = record {
          same_reference = c.places.invariant.0;
          changed = λ clean inside. (subst (λ m. Moves AnyRows (pieces_added keys org ws n text m) s0 s1) end (some.moves clean open_is inside), tt);
          so_far = some.so_far;
          shield = some.shield;
        };
        fits = λ clean inside t holds. subst (λ m. TwinsFit keys org ws n text m t) end (some.reported clean open_is inside t holds).0;
        keyed = λ clean inside t holds. subst (λ m. KeysFit g.K.PageKey.key_of keys org ws n text m t) end (some.reported clean open_is inside t holds).1;
      },
    )
