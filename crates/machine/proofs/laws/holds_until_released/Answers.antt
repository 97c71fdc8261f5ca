use Rattle.machine.proofs.CustodyLemmas as lemma
use Rattle.machine.proofs.laws.holds_until_released.Goals as goal

pub returns : goal.returns
returns c = lemma.holds_until_released
