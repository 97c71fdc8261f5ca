use Rattle.std.proofs.Common.{◌+◌, sym, ap}
use Rattle.pages.specs.Rows.{page_added, page_used}
use Rattle.pages.specs.Puts.{free_twin, put_found}
use Rattle.pages.proofs.Sequences.{steps_are}
use Rattle.pages.proofs.store.put_beside.Goals as goal

pub returns-in-Some-clause-steps : goal.returns-in-Some-clause-steps
returns-in-Some-clause-steps g c =
    let key = c.args.key.now in
    steps_are g.S.Store (page_used key c.in-Some.found.twin (c.in-Some.found.uses + 1)) (put_found key c.args.page.now c.args.found) c.args.tx.now c.use_again.new.tx c.use_again.result
    (λ clean t _. ap (λ o. put_found key c.args.page.now o t) (sym c.in-Some.is)) c.use_again.ensures.steps

pub returns-in-None-clause-steps : goal.returns-in-None-clause-steps
returns-in-None-clause-steps g c =
    let key = c.args.key.now in
    steps_are g.S.Store (λ t. page_added key (free_twin key t) c.args.page.now t) (put_found key c.args.page.now c.args.found) c.args.tx.now c.add_new.new.tx c.add_new.result
    (λ clean t _. ap (λ o. put_found key c.args.page.now o t) (sym c.in-None.is)) c.add_new.ensures.steps
