use Rattle.wire.proofs.RetargetLemmas.{retargeted}
use Rattle.wire.proofs.laws.retargeted_reads.Goals as goal

pub returns : goal.returns
returns c = retargeted
