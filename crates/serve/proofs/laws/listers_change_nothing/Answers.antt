use Rattle.serve.proofs.OperatorLemmas as lemma
use Rattle.serve.proofs.laws.listers_change_nothing.Goals as goal

pub returns : goal.returns
returns c = lemma.listers_change_nothing
