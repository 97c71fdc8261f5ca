use Rattle.pages.proofs.Outside.{ap, state}
use Rattle.pages.specs.Puts.{twin_found, twin_for, put_found, page_put}
use Rattle.pages.proofs.Sequences.{one_query, step_behind, reported_behind}
use Rattle.pages.proofs.store.put_among.Goals as goal

pub returns-clause-steps : goal.returns-clause-steps
returns-clause-steps g c =
    let key = c.args.key.now in
    let page = c.args.page.now in
    step_behind g.S.Store c.args.tx.now c.equal.new.tx c.equal.ensures.same_reference c.equal.ensures.survives (put_found key page c.in_ok-found.found) (page_put key page) c.put_beside.new.tx c.put_beside.result
    (λ clean. let read = c.in_ok-found.ensures.read clean in (λ t holds. ap (λ o. put_found key page o t) (read.0 t holds), read.1.0)) c.put_beside.ensures.steps

pub returns-clause-twin : goal.returns-clause-twin
returns-clause-twin g c clean =
    let key = c.args.key.now in
    let page = c.args.page.now in
    let s0 = state g.S.Store c.args.tx.now.conn.now in
    let s1 = state g.S.Store c.equal.new.tx.conn.now in
    let read = c.in_ok-found.ensures.read (c.put_beside.ensures.steps.so_far clean) in
    reported_behind (twin_found key c.in_ok-found.found) (twin_for key page) s0 s1 c.put_beside.result (one_query s0 s1 read.1.0) (λ t holds. ap (λ o. twin_found key o t) (read.0 t holds)) (c.put_beside.ensures.twin clean)
