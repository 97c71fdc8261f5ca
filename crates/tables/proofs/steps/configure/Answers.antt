use Rattle.pages.proofs.Sequences.{steps_by, steps_then}
use Rattle.tables.proofs.steps.configure.Goals as goal

pub returns-in-None : goal.returns-in-None
returns-in-None g c = rw c.in-None.is (steps_then g.S.Store _ _ _ _ _ _ _ (steps_by g.S.Store _ _ _ _ c.in_ok-set_run_settings.ensures) (steps_by g.S.Store _ _ _ _ c.in_ok-set.ensures))

pub returns-in-Some : goal.returns-in-Some
returns-in-Some g c = rw c.in-Some.is (
    steps_then g.S.Store _ _ _ _ _ _ _ (steps_by g.S.Store _ _ _ _ c.in_ok-set_run_settings.ensures)
    (steps_then g.S.Store _ _ _ _ _ _ _ (steps_by g.S.Store _ _ _ _ c.in_ok-set.ensures) c.forget.ensures))
