use Rattle.pages.proofs.Outside.{ap, state, clean_before}
use Rattle.pages.specs.Rows.{page_added}
use Rattle.pages.specs.Puts.{free_twin}
use Rattle.pages.proofs.Sequences.{still_inside, moved_behind}
use Rattle.pages.proofs.store.add_new.Goals as goal

pub returns-clause-steps : goal.returns-clause-steps
returns-clause-steps g c =
    let key = c.args.key.now in
    let s0 = state g.S.Store c.args.tx.now.conn.now in
    let s1 = state g.S.Store c.free.new.tx.conn.now in
    let s2 = state g.S.Store c.add.new.tx.conn.now in
    let before = clean_before s1 s2 _ c.add.ensures.survives in
    record {
      same_reference = search;
      changed = λ clean inside.
          let seen = c.in_ok-twin.ensures.sees (before clean) in
          let unchanged = seen.1.0 in (
            moved_behind (page_added key c.in_ok-twin.twin c.args.page.now) (λ t. page_added key (free_twin key t) c.args.page.now t) s0 s1 s2 unchanged
                (λ t holds. ap (λ n. page_added key n c.args.page.now t) (seen.0 t holds)) (c.in_ok-add.ensures.changed clean (still_inside s0 s1 unchanged inside)).0,
            tt,
          );
      so_far = λ clean. c.free.ensures.so_far (before clean);
      shield = λ s. c.add.ensures.survives.shield (c.free.ensures.shield s);
    }
