use Rattle.serve.proofs.CustodyLemmas as lemma
use Rattle.serve.proofs.laws.organizations_go_by_removal.Goals as goal

pub returns-clause-alone : goal.returns-clause-alone
returns-clause-alone c = lemma.organizations_go_by_removal

pub returns-clause-carried_out : goal.returns-clause-carried_out
returns-clause-carried_out c = lemma.removals_are_carried_out

pub returns-clause-anew : goal.returns-clause-anew
returns-clause-anew c = lemma.organizations_begin_anew
