use Rattle.std.proofs.Common.{arith, sym, ap, subst, ◌∙◌}
use Rattle.sqlite_trees.proofs.Doubt.{clean_of as sure}
use Rattle.sqlite_store.specs.FileStore.{view as shown}
use Rattle.sqlite.specs.Files.{IsEmpty}
use Rattle.system.proofs.connecting.connect_new.Goals as goal

pub over-requires : goal.over-requires
over-requires g c = λ now. (c.in-Ok.ensures.fresh (sure _ now)).fresh

pub returns-in-Ok-over-clause-empty : goal.returns-in-Ok-over-clause-empty
returns-in-Ok-over-clause-empty g c now =
    let made = c.in-Ok.ensures.fresh (sure (shown c.in-Ok.store).is_clean (omega (arith, c.in-Ok-over.ensures.clean))) in
    let trees = sym (ap (λ d. d.trees) (c.in-Ok-over.ensures.opens now).0.clean) ∙ c.in-Ok-over.ensures.trees now in
    subst IsEmpty (sym trees) made.empty

pub returns-in-Ok-over-clause-guarded : goal.returns-in-Ok-over-clause-guarded
returns-in-Ok-over-clause-guarded g c now =
    c.in-Ok-over.ensures.shield (c.in-Ok.ensures.fresh (sure (shown c.in-Ok.store).is_clean (omega (arith, c.in-Ok-over.ensures.clean)))).guarded

pub returns-in-Ok-over-clause-sums : goal.returns-in-Ok-over-clause-sums
returns-in-Ok-over-clause-sums g c now =
    c.in-Ok-over.ensures.sums now ∙ (c.in-Ok.ensures.fresh (sure (shown c.in-Ok.store).is_clean (omega (arith, c.in-Ok-over.ensures.clean)))).sums

pub returns-in-Ok-over-clause-honest : goal.returns-in-Ok-over-clause-honest
returns-in-Ok-over-clause-honest g c now =
    c.in-Ok.ensures.honest (sure (shown c.in-Ok.store).is_clean (omega (arith, c.in-Ok-over.ensures.clean)))
