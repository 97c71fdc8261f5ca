use Rattle.machine.proofs.QueueLemmas as lemma
use Rattle.machine.proofs.laws.plan_only_runs_stay_out.Goals as goal

pub returns : goal.returns
returns c = lemma.plan_only_runs_stay_out
