use Rattle.machine.proofs.CustodyLemmas as lemma
use Rattle.machine.proofs.laws.locked_workspaces_stay.Goals as goal

pub returns : goal.returns
returns c = lemma.locked_workspaces_stay
