use Rattle.serve.proofs.ServedLemmas as lemma
use Rattle.serve.proofs.laws.served_tell_absent_forms.Goals as goal

pub returns : goal.returns
returns c = lemma.served_tell_absent_forms
