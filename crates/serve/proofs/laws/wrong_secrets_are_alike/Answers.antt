use Rattle.serve.proofs.DoorLemmas as lemma
use Rattle.serve.proofs.laws.wrong_secrets_are_alike.Goals as goal

pub returns : goal.returns
returns c = lemma.wrong_secrets_are_alike
