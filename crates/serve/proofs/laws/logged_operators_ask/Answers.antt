use Rattle.serve.proofs.OperatorLemmas as lemma
use Rattle.serve.proofs.laws.logged_operators_ask.Goals as goal

pub returns : goal.returns
returns c = lemma.logged_operators_ask
