use Rattle.machine.proofs.QueueLemmas as lemma
use Rattle.machine.proofs.laws.runs_start_in_order.Goals as goal

pub returns : goal.returns
returns c = lemma.runs_start_in_order
