use Rattle.machine.proofs.StayLemmas as lemma
use Rattle.machine.proofs.laws.versions_follow.Goals as goal

pub returns-clause-newest : goal.returns-clause-newest
returns-clause-newest c = lemma.newest_versions_follow

pub returns-clause-kept : goal.returns-clause-kept
returns-clause-kept c = lemma.kept_versions_follow
