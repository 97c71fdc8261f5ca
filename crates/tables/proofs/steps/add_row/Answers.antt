use Rattle.pages.proofs.Sequences.{steps_by}
use Rattle.tables.proofs.steps.add_row.Goals as goal

pub returns-clause-steps : goal.returns-clause-steps
returns-clause-steps g c = rw (c.as_str-lineage.ensures, c.as_slice.ensures) at (steps_by g.S.Store _ _ _ _ c.add.ensures.writes)
