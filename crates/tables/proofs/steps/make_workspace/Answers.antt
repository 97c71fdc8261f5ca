use Rattle.pages.proofs.Sequences.{steps_by}
use Rattle.tables.proofs.steps.make_workspace.Goals as goal

pub returns-clause-steps : goal.returns-clause-steps
returns-clause-steps g c = steps_by g.S.Store _ _ _ _ c.add.ensures.writes
