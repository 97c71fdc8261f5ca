use Rattle.machine.proofs.StayLemmas as lemma
use Rattle.machine.proofs.laws.accepted_texts_stand.Goals as goal

pub returns-clause-stands : goal.returns-clause-stands
returns-clause-stands c = lemma.accepted_texts_stand

pub returns-clause-accepted : goal.returns-clause-accepted
returns-clause-accepted c = lemma.following_texts_are_accepted
