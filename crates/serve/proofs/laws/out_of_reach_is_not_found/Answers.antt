use Rattle.serve.proofs.LawLemmas as lemma
use Rattle.serve.proofs.laws.out_of_reach_is_not_found.Goals as goal

pub returns : goal.returns
returns c = lemma.out_of_reach_is_not_found
