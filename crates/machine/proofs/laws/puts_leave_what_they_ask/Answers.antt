use Rattle.machine.proofs.StayLemmas as lemma
use Rattle.machine.proofs.laws.puts_leave_what_they_ask.Goals as goal

pub returns-clause-there : goal.returns-clause-there
returns-clause-there c = lemma.puts_leave_what_they_ask

pub returns-clause-made : goal.returns-clause-made
returns-clause-made c = lemma.puts_make_what_they_ask
