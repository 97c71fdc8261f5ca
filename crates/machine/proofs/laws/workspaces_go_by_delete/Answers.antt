use Rattle.machine.proofs.CustodyLemmas as lemma
use Rattle.machine.proofs.laws.workspaces_go_by_delete.Goals as goal

pub returns : goal.returns
returns c = lemma.workspaces_go_by_delete
