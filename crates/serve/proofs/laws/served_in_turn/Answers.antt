use Rattle.serve.proofs.ServedLemmas as lemma
use Rattle.serve.proofs.laws.served_in_turn.Goals as goal

pub returns-clause-exchanges : goal.returns-clause-exchanges
returns-clause-exchanges c = lemma.served_in_turn

pub returns-clause-asks : goal.returns-clause-asks
returns-clause-asks c = lemma.asks_in_turn
