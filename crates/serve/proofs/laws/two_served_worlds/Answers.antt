use Rattle.serve.proofs.ServedLemmas as lemma
use Rattle.serve.proofs.laws.two_served_worlds.Goals as goal

pub returns : goal.returns
returns c = lemma.two_served_worlds
