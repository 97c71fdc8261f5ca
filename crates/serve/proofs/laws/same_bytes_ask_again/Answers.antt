use Rattle.serve.proofs.CustodyLemmas as lemma
use Rattle.serve.proofs.laws.same_bytes_ask_again.Goals as goal

pub returns : goal.returns
returns c = lemma.same_bytes_ask_again
