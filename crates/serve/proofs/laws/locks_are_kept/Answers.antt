use Rattle.serve.proofs.CustodyLemmas as lemma
use Rattle.serve.proofs.laws.locks_are_kept.Goals as goal

pub returns : goal.returns
returns c = lemma.locks_are_kept
