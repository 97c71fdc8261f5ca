use Rattle.pages.proofs.Sequences.{steps_then}
use Rattle.tables.proofs.KeepMoves.{steps_there}
use Rattle.tables.proofs.steps.add_run.Goals as goal

pub returns : goal.returns
returns g c =
    steps_there g.S.Store c.args.org.now c.args.ws.now _ _ c.count_run.new.tx _ _ c.in_ok-count_run.ensures.found c.append_run.ensures.so_far
    (steps_then g.S.Store _ _ _ _ _ _ _ c.in_ok-count_run.ensures.steps c.append_run.ensures)
