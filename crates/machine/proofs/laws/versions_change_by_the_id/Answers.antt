use Rattle.machine.proofs.CustodyLemmas as lemma
use Rattle.machine.proofs.laws.versions_change_by_the_id.Goals as goal

pub returns : goal.returns
returns c = lemma.versions_change_by_the_id
