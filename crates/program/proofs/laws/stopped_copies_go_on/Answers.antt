use Rattle.program.proofs.MoveLemmas as lemma
use Rattle.program.proofs.laws.stopped_copies_go_on.Goals as goal

pub returns : goal.returns
returns c = lemma.stopped
