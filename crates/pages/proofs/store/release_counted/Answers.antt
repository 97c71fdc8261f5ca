use Rattle.pages.proofs.Outside.{ap, state}
use Rattle.pages.specs.Puts.{released_found, page_released}
use Rattle.pages.proofs.Sequences.{one_query, still_inside, step_behind}
use Rattle.pages.proofs.Promises.{releases_if}
use Rattle.pages.proofs.Referring.{spared_behind}
use Rattle.pages.proofs.store.release_counted.Goals as goal

pub returns-clause-steps : goal.returns-clause-steps
returns-clause-steps g c =
    let key = c.args.key.now in
    let twin = c.args.twin in
    step_behind g.S.Store c.args.tx.now c.uses.new.tx c.uses.ensures.same_reference c.uses.ensures.survives (released_found key twin c.in_ok-found.found) (page_released key twin) c.release_found.new.tx c.release_found.result
    (λ clean. let read = c.in_ok-found.ensures.read clean in (λ t holds. ap (λ o. released_found key twin o t) (read.0 t holds), read.1.0)) c.release_found.ensures.steps

pub returns-clause-releases : goal.returns-clause-releases
returns-clause-releases g c clean inside =
    let key = c.args.key.now in
    let twin = c.args.twin in
    let s0 = state g.S.Store c.args.tx.now.conn.now in
    let s2 = state g.S.Store c.release_found.new.tx.conn.now in
    let read = c.in_ok-found.ensures.read (c.release_found.ensures.steps.so_far clean) in
    let steps = step_behind g.S.Store c.args.tx.now c.uses.new.tx c.uses.ensures.same_reference c.uses.ensures.survives (released_found key twin c.in_ok-found.found) (page_released key twin) c.release_found.new.tx c.release_found.result
    (λ early. let reported = c.in_ok-found.ensures.read early in (λ t holds. ap (λ o. released_found key twin o t) (reported.0 t holds), reported.1.0)) c.release_found.ensures.steps in
    let done = steps.changed clean inside in
    releases_if key twin c.in_ok-found.found s0 s2 c.release_found.result done.0 c.release_found.ensures.found read.0

pub returns-clause-spares : goal.returns-clause-spares
returns-clause-spares g c clean inside =
    let s0 = state g.S.Store c.args.tx.now.conn.now in
    let s1 = state g.S.Store c.uses.new.tx.conn.now in
    let s2 = state g.S.Store c.release_found.new.tx.conn.now in
    let unchanged = one_query s0 s1 (c.in_ok-found.ensures.read (c.release_found.ensures.steps.so_far clean)).1.0 in
    spared_behind s0 s1 s2 c.release_found.result unchanged (c.release_found.ensures.spares clean (still_inside s0 s1 unchanged inside))
