use Rattle.serve.proofs.HolderLemmas as lemma
use Rattle.serve.proofs.laws.locked_names_the_holder.Goals as goal

pub returns : goal.returns
returns c = lemma.locked_names_the_holder
