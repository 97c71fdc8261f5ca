use Rattle.std.proofs.Common.{sym, ap}
use Rattle.pages.specs.Puts.{lessened, released_found}
use Rattle.pages.proofs.Sequences.{steps_are}
use Rattle.pages.proofs.store.release_found.Goals as goal

pub returns-in-Some-clause-steps : goal.returns-in-Some-clause-steps
returns-in-Some-clause-steps g c =
    let key = c.args.key.now in
    steps_are g.S.Store (lessened key c.args.twin c.in-Some.uses) (released_found key c.args.twin c.args.uses) c.args.tx.now c.lessen.new.tx c.lessen.result
    (λ clean t _. ap (λ o. released_found key c.args.twin o t) (sym c.in-Some.is)) c.lessen.ensures.steps
