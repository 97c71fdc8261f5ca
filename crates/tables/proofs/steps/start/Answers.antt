use Rattle.pages.proofs.Sequences.{steps_by, steps_then}
use Rattle.tables.proofs.steps.start.Goals as goal

pub returns : goal.returns
returns g c = steps_then g.S.Store _ _ _ _ _ _ _ (steps_by g.S.Store _ _ _ _ c.in_ok-hold.ensures) (steps_by g.S.Store _ _ _ _ c.set_status.ensures)
