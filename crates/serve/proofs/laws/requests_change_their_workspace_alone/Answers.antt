use Rattle.serve.proofs.CustodyLemmas as lemma
use Rattle.serve.proofs.laws.requests_change_their_workspace_alone.Goals as goal

pub returns : goal.returns
returns c = lemma.requests_change_their_workspace_alone
