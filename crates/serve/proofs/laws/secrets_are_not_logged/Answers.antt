use Rattle.serve.proofs.LogInputs as lemma
use Rattle.serve.proofs.laws.secrets_are_not_logged.Goals as goal

pub returns : goal.returns
returns c = lemma.secrets_are_not_logged
