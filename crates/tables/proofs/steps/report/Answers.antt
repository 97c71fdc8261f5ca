use Rattle.pages.proofs.Sequences.{steps_by, steps_then}
use Rattle.tables.proofs.steps.report.Goals as goal

pub returns-then-frees : goal.returns-then-frees
returns-then-frees g c = rw c.if-frees.true (steps_then g.S.Store _ _ _ _ _ _ _ (steps_by g.S.Store _ _ _ _ c.in_ok-record_action.ensures) (steps_by g.S.Store _ _ _ _ c.hold.ensures))

pub returns-else-frees : goal.returns-else-frees
returns-else-frees g c = rw c.if-frees.false (steps_by g.S.Store _ _ _ _ c.in_ok-record_action.ensures)
