use Rattle.machine.proofs.VersionLemmas as lemma
use Rattle.machine.proofs.laws.numbers_rise.Goals as goal

pub returns : goal.returns
returns c = lemma.numbers_rise
