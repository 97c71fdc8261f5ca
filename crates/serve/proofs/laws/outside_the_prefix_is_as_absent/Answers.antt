use Rattle.serve.proofs.LawLemmas as lemma
use Rattle.serve.proofs.laws.outside_the_prefix_is_as_absent.Goals as goal

pub returns : goal.returns
returns c = lemma.outside_the_prefix_is_as_absent
