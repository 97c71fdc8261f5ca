use Rattle.serve.proofs.ServedLemmas as lemma
use Rattle.serve.proofs.laws.served_keep_custody.Goals as goal

pub returns : goal.returns
returns c = lemma.served_keep_custody
