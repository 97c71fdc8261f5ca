use Rattle.lanes.proofs.LaneLemmas.{shifts_each}
use Rattle.lanes.proofs.rounds.shift.Goals as goal

pub returns : goal.returns
returns c = shifts_each c.args.by c.requires c.args.a c.fits-a.0
