use Rattle.machine.proofs.QueueLemmas as lemma
use Rattle.machine.proofs.laws.actions_come_again.Goals as goal

pub returns : goal.returns
returns c = lemma.actions_come_again
