use Rattle.serve.proofs.ServedLemmas as lemma
use Rattle.serve.proofs.laws.each_is_served_alone.Goals as goal

pub returns-clause-alone : goal.returns-clause-alone
returns-clause-alone c = lemma.each_is_served_alone

pub returns-clause-told : goal.returns-clause-told
returns-clause-told c = lemma.served_told
