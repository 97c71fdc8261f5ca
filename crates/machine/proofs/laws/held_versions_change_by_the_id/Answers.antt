use Rattle.machine.proofs.CustodyLemmas as lemma
use Rattle.machine.proofs.laws.held_versions_change_by_the_id.Goals as goal

pub returns : goal.returns
returns c = lemma.held_versions_change_by_the_id
