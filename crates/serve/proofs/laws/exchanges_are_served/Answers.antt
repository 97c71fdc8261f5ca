use Rattle.serve.proofs.ServedLemmas as lemma
use Rattle.serve.proofs.laws.exchanges_are_served.Goals as goal

pub returns : goal.returns
returns c = lemma.exchanges_are_served
