use Rattle.route.proofs.MethodLemmas as lemma
use Rattle.route.proofs.laws.methods_are_listed.Goals as goal

pub returns : goal.returns
returns c = lemma.methods_are_listed
