use Rattle.pages.proofs.Outside.{sym, ◌∙◌, state, clean_before}
use Rattle.pages.proofs.Sequences.{one_query}
use Rattle.pages.proofs.store.none_left.Goals as goal

pub returns-in-None : goal.returns-in-None
returns-in-None g c =
    let s0 = state g.S.Store c.args.tx.now.conn.now in
    let s1 = state g.S.Store c.uses.new.tx.conn.now in
    let survives = c.uses.ensures.survives in
    record {
      same_reference = search;
      sees = λ clean.
          let read = c.in_ok-found.ensures.read clean in
          (λ t holds. sym (read.0 t holds) ∙ c.in-None.is, (one_query s0 s1 read.1.0, tt));
      so_far = clean_before s0 s1 _ survives;
      shield = survives.shield;
    }
