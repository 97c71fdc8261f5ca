use Rattle.machine.proofs.QueueLemmas as lemma
use Rattle.machine.proofs.laws.keyed_creations_come_again.Goals as goal

pub returns : goal.returns
returns c = lemma.keyed_creations_come_again
