use Rattle.machine.proofs.QueueLemmas as lemma
use Rattle.machine.proofs.laws.runs_stay.Goals as goal

pub returns : goal.returns
returns c = lemma.runs_stay
