use Rattle.pages.proofs.Outside.{ap, ◌∙◌, state}
use Rattle.pages.specs.Puts.{twin_for, page_put}
use Rattle.pages.specs.Inner.Calls.{put_with, twin_with}
use Rattle.pages.proofs.FirstPages.{put_with_is, twin_with_is}
use Rattle.pages.proofs.Sequences.{one_query, step_behind, reported_behind}
use Rattle.pages.proofs.store.put_under.Goals as goal

pub returns-clause-steps : goal.returns-clause-steps
returns-clause-steps g c =
    let key = c.args.key.now in
    let page = c.args.page.now in
    step_behind g.S.Store c.args.tx.now c.first_twin.new.tx c.first_twin.ensures.same_reference c.first_twin.ensures.survives (put_with key page c.in_ok-first.first) (page_put key page) c.put_with.new.tx c.put_with.result
    (λ clean. let read = c.in_ok-first.ensures.read clean in (λ t holds. ap (λ o. put_with key page o t) (read.0 t holds) ∙ put_with_is key page t, read.1.0)) c.put_with.ensures.steps

pub returns-clause-twin : goal.returns-clause-twin
returns-clause-twin g c clean =
    let key = c.args.key.now in
    let page = c.args.page.now in
    let s0 = state g.S.Store c.args.tx.now.conn.now in
    let s1 = state g.S.Store c.first_twin.new.tx.conn.now in
    let read = c.in_ok-first.ensures.read (c.put_with.ensures.steps.so_far clean) in
    reported_behind (twin_with key page c.in_ok-first.first) (twin_for key page) s0 s1 c.put_with.result (one_query s0 s1 read.1.0) (λ t holds. ap (λ o. twin_with key page o t) (read.0 t holds) ∙ twin_with_is key page t) (c.put_with.ensures.twin clean)
