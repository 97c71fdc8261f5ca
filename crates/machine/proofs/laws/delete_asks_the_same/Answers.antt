use Rattle.machine.proofs.DeletionLemmas as lemma
use Rattle.machine.proofs.laws.delete_asks_the_same.Goals as goal

pub returns : goal.returns
returns c = lemma.delete_asks_the_same
