use Rattle.pages.proofs.Outside.{◌≡◌, ◌<◌, Some, None, refl, sym, ap, ◌∙◌, arith, state, clean_before}
use Rattle.pages.specs.Rows.{page_uses}
use Rattle.pages.specs.Puts.{twin_limit}
use Rattle.pages.proofs.FreeTwins.{free_on, free_here, free_begin}
use Rattle.pages.proofs.Sequences.{as_it_is, one_query, unchanged_then, still_holds}
use Rattle.pages.proofs.store.free.Goals as goal

pub twins-init : goal.twins-init
twins-init g c = (refl, record { so_far = λ clean. clean; shield = λ s. s; unchanged = λ _. as_it_is (state g.S.Store c.args.tx.now.conn.now); left = λ _ t _. free_begin c.args.key.now t })

pub returns-in-None : goal.returns-in-None
returns-in-None g c =
    let key = c.args.key.now in
    let s0 = state g.S.Store c.args.tx.now.conn.now in
    let s1 = state g.S.Store c.twins.tx.conn.now in
    let s2 = state g.S.Store c.uses.new.tx.conn.now in
    let so_far = c.twins.invariant.1 in
    let before = clean_before s1 s2 _ c.uses.ensures.survives in
    let same : c.in-Some.twin ≡ c.twins.number = grind arith in
    let low : c.twins.number < twin_limit = grind arith in
    record {
      same_reference = search;
      sees = λ clean.
          let read = c.in_ok-found.ensures.read clean in
          let unchanged = so_far.unchanged (before clean) in (
            λ t holds.
                let none : page_uses key c.twins.number t ≡ None = ap (λ n. page_uses key n t) (sym same) ∙ sym (read.0 t (still_holds s0 s1 unchanged t holds)) ∙ c.in-None.is in
                same ∙ sym (free_here key twin_limit c.twins.number t low none) ∙ so_far.left (before clean) t holds,
            (unchanged_then s0 s1 s2 unchanged (one_query s1 s2 read.1.0), tt),
          );
      so_far = λ clean. so_far.so_far (before clean);
      shield = λ s. c.uses.ensures.survives.shield (so_far.shield s);
    }

pub twins-preserved : goal.twins-preserved
twins-preserved g c =
    let key = c.args.key.now in
    let s0 = state g.S.Store c.args.tx.now.conn.now in
    let s1 = state g.S.Store c.twins.tx.conn.now in
    let s2 = state g.S.Store c.uses.new.tx.conn.now in
    let so_far = c.twins.invariant.1 in
    let same : c.in-Some.twin ≡ c.twins.number = grind arith in
    let low : c.twins.number < twin_limit = grind arith in
    let before = clean_before s1 s2 _ c.uses.ensures.survives in (
      c.in_ok-found.ensures.same_reference ∙ c.twins.invariant.0,
      record {
        so_far = λ clean. so_far.so_far (before clean);
        shield = λ s. c.uses.ensures.survives.shield (so_far.shield s);
        unchanged = λ clean. unchanged_then s0 s1 s2 (so_far.unchanged (before clean)) (one_query s1 s2 (c.in_ok-found.ensures.read clean).1.0);
        left = λ clean t holds.
            let there : page_uses key c.twins.number t ≡ Some c.in-Some-found.field-0 = ap (λ n. page_uses key n t) (sym same) ∙ sym ((c.in_ok-found.ensures.read clean).0 t (still_holds s0 s1 (so_far.unchanged (before clean)) t holds)) ∙ c.in-Some-found.is in
            sym (free_on key twin_limit c.twins.number t low c.in-Some-found.field-0 there) ∙ so_far.left (before clean) t holds;
      },
    )
