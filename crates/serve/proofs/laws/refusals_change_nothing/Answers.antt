use Rattle.serve.proofs.LawLemmas as lemma
use Rattle.serve.proofs.laws.refusals_change_nothing.Goals as goal

pub returns : goal.returns
returns c = lemma.refusals_change_nothing
