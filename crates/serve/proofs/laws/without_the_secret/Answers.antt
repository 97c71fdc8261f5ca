use Rattle.serve.proofs.DoorLemmas as lemma
use Rattle.serve.proofs.laws.without_the_secret.Goals as goal

pub returns : goal.returns
returns c = lemma.without_the_secret
