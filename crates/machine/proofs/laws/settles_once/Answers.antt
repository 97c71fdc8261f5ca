use Rattle.machine.proofs.SettlesLemmas as lemma
use Rattle.machine.proofs.laws.settles_once.Goals as goal

pub returns : goal.returns
returns c = lemma.settles_once
