use Rattle.serve.proofs.LogInputs as lemma
use Rattle.serve.proofs.laws.names_decide_nothing.Goals as goal

pub returns : goal.returns
returns c = lemma.names_decide_nothing
