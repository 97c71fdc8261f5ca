use Rattle.machine.proofs.DecisionLemmas.{met}
use Rattle.machine.proofs.decisions.decide.Goals as goal

pub returns : goal.returns
returns c = met c.args.unit.now c.args.act.now c.args.now c.decided.result c.decided.ensures.range c.decided.ensures.is
