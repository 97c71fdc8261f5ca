use Rattle.std.proofs.Common.{sym, ap}
use Rattle.pages.specs.Puts.{page_put}
use Rattle.pages.specs.Rows.{page_added}
use Rattle.pages.specs.Inner.Calls.{put_with}
use Rattle.pages.proofs.Sequences.{steps_are}
use Rattle.pages.proofs.store.put_with.Goals as goal

pub returns-in-None-clause-steps : goal.returns-in-None-clause-steps
returns-in-None-clause-steps g c =
    let key = c.args.key.now in
    let page = c.args.page.now in
    steps_are g.S.Store (page_added key 0 page) (put_with key page c.args.first) c.args.tx.now c.add_first.new.tx c.add_first.result (λ clean t _. ap (λ o. put_with key page o t) (sym c.in-None.is)) c.add_first.ensures.steps

pub returns-in-Some-clause-steps : goal.returns-in-Some-clause-steps
returns-in-Some-clause-steps g c =
    let key = c.args.key.now in
    let page = c.args.page.now in
    steps_are g.S.Store (page_put key page) (put_with key page c.args.first) c.args.tx.now c.put_among.new.tx c.put_among.result (λ clean t _. ap (λ o. put_with key page o t) (sym c.in-Some.is)) c.put_among.ensures.steps
