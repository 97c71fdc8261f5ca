use Rattle.program.proofs.MoveLemmas as lemma
use Rattle.program.proofs.laws.done_copies_are_equal.Goals as goal

pub returns : goal.returns
returns c = lemma.done
