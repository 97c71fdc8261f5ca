use Rattle.serve.proofs.CustodyLemmas as lemma
use Rattle.serve.proofs.laws.repeats_leave_the_workspace.Goals as goal

pub returns : goal.returns
returns c = lemma.repeats_leave_the_workspace
