use Rattle.pages.proofs.Sequences.{steps_by}
use Rattle.tables.proofs.KeepMoves.{steps_then_all}
use Rattle.tables.proofs.steps.remove_version.Goals as goal

pub returns : goal.returns
returns g c = steps_then_all g.S.Store _ _ _ _ _ _ _ (steps_by g.S.Store _ _ _ _ c.in_ok-remove.ensures) c.remove_text.ensures.goes_on c.remove_text.ensures.steps
