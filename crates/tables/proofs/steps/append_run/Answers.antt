use Rattle.pages.proofs.Sequences.{steps_by}
use Rattle.tables.proofs.steps.append_run.Goals as goal

pub returns : goal.returns
returns g c = rw (c.optional_str-key.ensures, c.as_str-message.ensures, c.first_status-status.ensures) at (steps_by g.S.Store _ _ _ _ c.add.ensures)
