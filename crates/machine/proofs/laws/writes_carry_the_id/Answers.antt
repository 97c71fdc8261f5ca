use Rattle.machine.proofs.RefusalLemmas as lemma
use Rattle.machine.proofs.laws.writes_carry_the_id.Goals as goal

pub returns : goal.returns
returns c = lemma.writes_carry_the_id
