use Rattle.machine.proofs.CustodyLemmas as lemma
use Rattle.machine.proofs.laws.workspaces_begin_anew.Goals as goal

pub returns : goal.returns
returns c = lemma.workspaces_begin_anew
