use Rattle.serve.proofs.DoorLemmas as lemma
use Rattle.serve.proofs.laws.added_secrets_are_not_logged.Goals as goal

pub returns : goal.returns
returns c = lemma.added_secrets_are_not_logged
