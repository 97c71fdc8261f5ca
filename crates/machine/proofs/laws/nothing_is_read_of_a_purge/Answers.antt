use Rattle.machine.proofs.VersionLemmas as lemma
use Rattle.machine.proofs.laws.nothing_is_read_of_a_purge.Goals as goal

pub returns : goal.returns
returns c = lemma.nothing_is_read_of_a_purge
