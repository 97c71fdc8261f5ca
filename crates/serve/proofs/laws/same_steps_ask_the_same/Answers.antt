use Rattle.serve.proofs.RunLemmas as lemma
use Rattle.serve.proofs.laws.same_steps_ask_the_same.Goals as goal

pub returns : goal.returns
returns c = lemma.same_steps
