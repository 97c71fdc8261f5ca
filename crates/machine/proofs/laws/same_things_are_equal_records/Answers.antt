use Rattle.machine.proofs.SamenessLemmas as lemma
use Rattle.machine.proofs.laws.same_things_are_equal_records.Goals as goal

pub returns : goal.returns
returns c = lemma.same_things
