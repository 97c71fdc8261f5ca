use Rattle.pages.proofs.Outside.{sym, ap, ◌∙◌, state, HasCleanDisk, AnyRows, Tables, Holds, clean_before, moves_more}
use Rattle.pages.specs.Pages.{pages_in, HasSoundPages, ReleasesPage, NamedAreThere}
use Rattle.pages.specs.Puts.{page_released}
use Rattle.pages.specs.Rows.{last_removed}
use Rattle.pages.proofs.Alone.{untouched, last_is_there, gone_by, held_on, releases_there, said_before, spared_before}
use Rattle.pages.proofs.Sequences.{as_it_is, done_behind}
use Rattle.pages.proofs.store.release_alone.Goals as goal

-- it was in one use, and has gone
pub returns-then-gone-clause-steps : goal.returns-then-gone-clause-steps
returns-then-gone-clause-steps g c =
    let key = c.args.key.now in
    let twin = c.args.twin in
    let s0 = state g.S.Store c.args.tx.now.conn.now in
    let s1 = state g.S.Store c.remove_last.new.tx.conn.now in
    let s2 = state g.S.Store c.none_left.new.tx.conn.now in
    let before = λ (clean : HasCleanDisk s2). c.none_left.ensures.so_far clean in
    let writes = c.in_ok-gone.ensures.writes in
    record {
      same_reference = c.none_left.ensures.same_reference ∙ writes.same_reference;
      changed = λ clean inside.
          let moved = (writes.changed (before clean) inside).0 in
          gone_by key twin s0 s1 s2 moved c.none_left.result (c.none_left.ensures.sees clean);
      so_far = λ clean. clean_before s0 s1 _ writes.survives (before clean);
      shield = λ s. c.none_left.ensures.shield (writes.survives.shield s);
    }

pub returns-then-gone-clause-releases : goal.returns-then-gone-clause-releases
returns-then-gone-clause-releases g c clean inside =
    let key = c.args.key.now in
    let twin = c.args.twin in
    let s0 = state g.S.Store c.args.tx.now.conn.now in
    let s1 = state g.S.Store c.remove_last.new.tx.conn.now in
    let s2 = state g.S.Store c.none_left.new.tx.conn.now in
    let before = c.none_left.ensures.so_far clean in
    let moved = (c.in_ok-gone.ensures.writes.changed before inside).0 in
    let done = gone_by key twin s0 s1 s2 moved c.none_left.result (c.none_left.ensures.sees clean) in
    releases_there key twin s0 s2 c.none_left.result done.0 (λ t holds. last_is_there key twin t (sym (c.in_ok-gone.ensures.found before inside t holds) ∙ c.if-gone.true))

pub returns-then-gone-clause-spares : goal.returns-then-gone-clause-spares
returns-then-gone-clause-spares g c clean inside =
    let s0 = state g.S.Store c.args.tx.now.conn.now in
    let s1 = state g.S.Store c.remove_last.new.tx.conn.now in
    let s2 = state g.S.Store c.none_left.new.tx.conn.now in
    let before = c.none_left.ensures.so_far clean in
    spared_before s0 s1 s2 c.none_left.result (c.in_ok-gone.ensures.spares before inside) (c.none_left.ensures.sees clean).1.0

-- it wasn't, and nothing was done
pub returns-else-gone-clause-steps : goal.returns-else-gone-clause-steps
returns-else-gone-clause-steps g c =
    let key = c.args.key.now in
    let twin = c.args.twin in
    let s0 = state g.S.Store c.args.tx.now.conn.now in
    let s1 = state g.S.Store c.remove_last.new.tx.conn.now in
    let s2 = state g.S.Store c.release_counted.new.tx.conn.now in
    let before = λ (clean : HasCleanDisk s2). c.release_counted.ensures.steps.so_far clean in
    let writes = c.in_ok-gone.ensures.writes in
    record {
      same_reference = c.release_counted.ensures.steps.same_reference ∙ writes.same_reference;
      changed = λ clean inside.
          let moved = (writes.changed (before clean) inside).0 in
          let none = λ (t : Tables) (holds : Holds s0.now t). sym (c.in_ok-gone.ensures.found (before clean) inside t holds) ∙ c.if-gone.false in
          done_behind (λ t. page_released key twin (last_removed key twin t)) (page_released key twin) s0 s0 s2 c.release_counted.result (as_it_is s0) (λ t holds. ap (page_released key twin) (untouched key twin t (none t holds)))
          (moves_more AnyRows AnyRows (last_removed key twin) (page_released key twin) s0 s1 s2 c.release_counted.result (λ t any. tt) moved (c.release_counted.ensures.steps.changed clean moved.inside));
      so_far = λ clean. clean_before s0 s1 _ writes.survives (before clean);
      shield = λ s. c.release_counted.ensures.steps.shield (writes.survives.shield s);
    }

pub returns-else-gone-clause-releases : goal.returns-else-gone-clause-releases
returns-else-gone-clause-releases g c clean inside =
    let key = c.args.key.now in
    let twin = c.args.twin in
    let s0 = state g.S.Store c.args.tx.now.conn.now in
    let s1 = state g.S.Store c.remove_last.new.tx.conn.now in
    let s2 = state g.S.Store c.release_counted.new.tx.conn.now in
    let before = c.release_counted.ensures.steps.so_far clean in
    let moved = (c.in_ok-gone.ensures.writes.changed before inside).0 in
    said_before (λ t u. ReleasesPage key twin (pages_in t) (pages_in u) × (HasSoundPages t → HasSoundPages u)) s0 s1 s2 c.release_counted.result
    (held_on key twin s0 s1 s2 moved (λ t holds. sym (c.in_ok-gone.ensures.found before inside t holds) ∙ c.if-gone.false)) (c.release_counted.ensures.releases clean moved.inside)

pub returns-else-gone-clause-spares : goal.returns-else-gone-clause-spares
returns-else-gone-clause-spares g c clean inside =
    let key = c.args.key.now in
    let twin = c.args.twin in
    let s0 = state g.S.Store c.args.tx.now.conn.now in
    let s1 = state g.S.Store c.remove_last.new.tx.conn.now in
    let s2 = state g.S.Store c.release_counted.new.tx.conn.now in
    let before = c.release_counted.ensures.steps.so_far clean in
    let moved = (c.in_ok-gone.ensures.writes.changed before inside).0 in
    said_before (λ t u. NamedAreThere u) s0 s1 s2 c.release_counted.result
    (held_on key twin s0 s1 s2 moved (λ t holds. sym (c.in_ok-gone.ensures.found before inside t holds) ∙ c.if-gone.false)) (c.release_counted.ensures.spares clean moved.inside)
