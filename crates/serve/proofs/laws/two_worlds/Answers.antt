use Rattle.serve.proofs.RunLemmas as lemma
use Rattle.serve.proofs.laws.two_worlds.Goals as goal

pub returns : goal.returns
returns c = lemma.two_worlds
