use Rattle.serve.proofs.CustodyLemmas as lemma
use Rattle.serve.proofs.laws.steps_change_what_they_name.Goals as goal

pub returns : goal.returns
returns c = lemma.steps_change_what_they_name
