use Rattle.serve.proofs.DoorLemmas as lemma
use Rattle.serve.proofs.laws.only_the_secret_opens.Goals as goal

pub returns : goal.returns
returns c = lemma.only_the_secret_opens
