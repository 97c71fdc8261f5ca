use Rattle.machine.proofs.Rulings as lemma
use Rattle.machine.proofs.laws.repeats_change_nothing.Goals as goal

pub returns : goal.returns
returns c = lemma.repeats
