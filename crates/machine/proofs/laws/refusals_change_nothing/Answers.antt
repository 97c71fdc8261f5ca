use Rattle.machine.proofs.RefusalLemmas as lemma
use Rattle.machine.proofs.laws.refusals_change_nothing.Goals as goal

pub returns : goal.returns
returns c = lemma.refusals_change_nothing
