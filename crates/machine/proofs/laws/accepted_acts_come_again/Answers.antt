use Rattle.machine.proofs.CustodyLemmas as lemma
use Rattle.machine.proofs.laws.accepted_acts_come_again.Goals as goal

pub returns : goal.returns
returns c = lemma.accepted_acts_come_again
