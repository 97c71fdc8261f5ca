use Rattle.tables.proofs.Outside.{refl, steps_by}
use Rattle.tables.specs.Inner.Copies.{AreMadeBy}
use Rattle.tables.proofs.Copying.{made_by_steps, related_none}
use Rattle.tables.proofs.copies.put_released.Goals as goal

pub returns-in-None : goal.returns-in-None
returns-in-None g c = rw c.in-None.is (related_none g.S.Store (AreMadeBy (λ t. t)) c.args.tx.now tt (λ t. refl))

pub returns-in-Some : goal.returns-in-Some
returns-in-Some g c = rw c.in-Some.is (made_by_steps g.S.Store _ _ _ _ (steps_by g.S.Store _ _ _ _ c.release_lock.ensures))
