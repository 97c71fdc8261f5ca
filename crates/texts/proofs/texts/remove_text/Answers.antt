use Rattle.texts.proofs.Outside.{rules, ◌≡◌, length, sym, ◌∙◌, subst, state, HasCleanDisk, clean_before, still_inside}
use Rattle.texts.specs.Inner.Calls.{AreRowsOf}
use Rattle.texts.proofs.Releasing.{text_gone, text_was_there}
use Rattle.texts.proofs.texts.remove_text.Goals as goal

pub returns-clause-steps : goal.returns-clause-steps
returns-clause-steps g c open_is =
    let s0 = state g.S.Store c.args.tx.now.conn.now in
    let s1 = state g.S.Store c.all.new.tx.conn.now in
    let s2 = state g.S.Store c.remove_all.new.tx.conn.now in
    let s3 = state g.S.Store c.release_each.new.tx.conn.now in
    let rows = c.as_slice.result.now in
    let pages = c.pages_for-pages.result in
    let many : length rows ≡ pages = search rules in
    let writes = c.in_ok-remove_all.ensures in
    let early = λ (clean : HasCleanDisk s3). clean_before s1 s2 _ writes.survives (c.release_each.ensures.goes_on.so_far clean) in
    record {
      same_reference = c.release_each.ensures.goes_on.same_reference ∙ writes.same_reference ∙ c.in_ok-rows.ensures.same_reference;
      changed = λ clean inside.
          let seen = c.in_ok-rows.ensures.sees (early clean) in
          let unchanged = seen.1.0 in
          let removed = (writes.changed (c.release_each.ensures.goes_on.so_far clean) (still_inside s0 s1 unchanged inside)).0 in
          text_gone c.args.org.now c.args.ws.now c.args.number c.args.size pages rows many c.pages_for-pages.ensures s0 s1 s2 s3 unchanged (λ t holds. subst (AreRowsOf c.args.org.now c.args.ws.now c.args.number t) (sym c.as_slice.ensures.value) (seen.0 t holds)) removed c.release_each.result
          ((c.release_each.ensures.steps removed.is_open).changed clean removed.inside) (c.release_each.ensures.there removed.is_open clean removed.inside);
      so_far = λ clean. c.in_ok-rows.ensures.so_far (early clean);
      shield = λ s. c.release_each.ensures.goes_on.shield (writes.survives.shield (c.in_ok-rows.ensures.shield s));
    }

pub returns-clause-there : goal.returns-clause-there
returns-clause-there g c open_is clean inside =
    let s0 = state g.S.Store c.args.tx.now.conn.now in
    let s1 = state g.S.Store c.all.new.tx.conn.now in
    let s2 = state g.S.Store c.remove_all.new.tx.conn.now in
    let s3 = state g.S.Store c.release_each.new.tx.conn.now in
    let rows = c.as_slice.result.now in
    let pages = c.pages_for-pages.result in
    let many : length rows ≡ pages = search rules in
    let writes = c.in_ok-remove_all.ensures in
    let early = clean_before s1 s2 _ writes.survives (c.release_each.ensures.goes_on.so_far clean) in
    let seen = c.in_ok-rows.ensures.sees early in
    let unchanged = seen.1.0 in
    let removed = (writes.changed (c.release_each.ensures.goes_on.so_far clean) (still_inside s0 s1 unchanged inside)).0 in
    text_was_there c.args.org.now c.args.ws.now c.args.number c.args.size pages rows many c.pages_for-pages.ensures s0 s1 s2 s3 unchanged (λ t holds. subst (AreRowsOf c.args.org.now c.args.ws.now c.args.number t) (sym c.as_slice.ensures.value) (seen.0 t holds)) removed c.release_each.result
    (c.release_each.ensures.there removed.is_open clean removed.inside)
