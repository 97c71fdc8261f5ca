use Rattle.program.proofs.MoveLemmas as lemma
use Rattle.program.proofs.laws.copies_to_none_are_the_same.Goals as goal

pub returns : goal.returns
returns c = lemma.to_none
