use Rattle.machine.proofs.VersionLemmas as lemma
use Rattle.machine.proofs.laws.what_is_posted_is_read.Goals as goal

pub returns : goal.returns
returns c = lemma.what_is_posted_is_read
