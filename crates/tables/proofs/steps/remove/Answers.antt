use Rattle.pages.proofs.Sequences.{steps_by, steps_then}
use Rattle.tables.proofs.steps.remove.Goals as goal

pub returns : goal.returns
returns g c =
    steps_then g.S.Store _ _ _ _ _ _ _ c.in_ok-purge.ensures
    (steps_then g.S.Store _ _ _ _ _ _ _ (steps_by g.S.Store _ _ _ _ c.in_ok-remove_all.ensures) (steps_by g.S.Store _ _ _ _ c.remove.ensures))
