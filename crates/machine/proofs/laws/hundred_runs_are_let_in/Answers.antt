use Rattle.machine.proofs.QueueLemmas as lemma
use Rattle.machine.proofs.laws.hundred_runs_are_let_in.Goals as goal

pub returns-clause-let_in : goal.returns-clause-let_in
returns-clause-let_in c = lemma.hundred_runs_are_let_in

pub returns-clause-no_more : goal.returns-clause-no_more
returns-clause-no_more c = lemma.no_more_runs_are_let_in
