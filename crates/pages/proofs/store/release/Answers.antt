use Rattle.pages.proofs.Outside.{ℕ, List, subst, state, Steps}
use Rattle.pages.specs.Pages.{ReleasesBy}
use Rattle.pages.specs.Puts.{page_released}
use Rattle.pages.proofs.store.release.Goals as goal

pub returns-then-shared-clause-steps : goal.returns-then-shared-clause-steps
returns-then-shared-clause-steps g c =
    subst (λ (k : List ℕ). Steps g.S.Store (page_released k c.args.id.now.twin) c.args.tx.now c.release_counted.new.tx c.release_counted.result) c.as_slice-key.ensures c.release_counted.ensures.steps

pub returns-then-shared-clause-releases : goal.returns-then-shared-clause-releases
returns-then-shared-clause-releases g c =
    subst (λ (k : List ℕ). ReleasesBy k c.args.id.now.twin (state g.S.Store c.args.tx.now.conn.now) (state g.S.Store c.release_counted.new.tx.conn.now) c.release_counted.result) c.as_slice-key.ensures c.release_counted.ensures.releases

pub returns-else-shared-clause-steps : goal.returns-else-shared-clause-steps
returns-else-shared-clause-steps g c =
    subst (λ (k : List ℕ). Steps g.S.Store (page_released k c.args.id.now.twin) c.args.tx.now c.release_alone.new.tx c.release_alone.result) c.as_slice-key.ensures c.release_alone.ensures.steps

pub returns-else-shared-clause-releases : goal.returns-else-shared-clause-releases
returns-else-shared-clause-releases g c =
    subst (λ (k : List ℕ). ReleasesBy k c.args.id.now.twin (state g.S.Store c.args.tx.now.conn.now) (state g.S.Store c.release_alone.new.tx.conn.now) c.release_alone.result) c.as_slice-key.ensures c.release_alone.ensures.releases
