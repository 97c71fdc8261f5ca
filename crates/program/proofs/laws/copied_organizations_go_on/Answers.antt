use Rattle.program.proofs.MoveLemmas as lemma
use Rattle.program.proofs.laws.copied_organizations_go_on.Goals as goal

pub returns : goal.returns
returns c = lemma.go_on
