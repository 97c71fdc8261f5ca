use Rattle.machine.proofs.RefusalLemmas as lemma
use Rattle.machine.proofs.laws.refusals_name_the_holder.Goals as goal

pub returns : goal.returns
returns c = lemma.refusals_name_the_holder
