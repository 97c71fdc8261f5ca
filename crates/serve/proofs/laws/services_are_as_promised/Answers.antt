use Rattle.serve.proofs.ServedLemmas as lemma
use Rattle.serve.proofs.laws.services_are_as_promised.Goals as goal

pub returns : goal.returns
returns c = lemma.services_are_as_promised
