use Rattle.machine.proofs.QueueLemmas as lemma
use Rattle.machine.proofs.laws.one_run_is_active.Goals as goal

pub returns : goal.returns
returns c = lemma.one_run_is_active
