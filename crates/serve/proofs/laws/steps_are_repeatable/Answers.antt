use Rattle.serve.proofs.CustodyLemmas as lemma
use Rattle.serve.proofs.laws.steps_are_repeatable.Goals as goal

pub returns : goal.returns
returns c = lemma.steps_are_repeatable
