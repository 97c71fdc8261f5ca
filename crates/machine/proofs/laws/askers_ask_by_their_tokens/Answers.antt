use Rattle.machine.proofs.TokenLemmas as lemma
use Rattle.machine.proofs.laws.askers_ask_by_their_tokens.Goals as goal

pub returns : goal.returns
returns c = lemma.asker_calls
