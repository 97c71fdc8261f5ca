use Rattle.serve.proofs.RunLemmas as lemma
use Rattle.serve.proofs.laws.one_asking.Goals as goal

pub returns : goal.returns
returns c = lemma.all_asked_one
