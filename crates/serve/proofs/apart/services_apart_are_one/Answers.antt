use Rattle.serve.proofs.ApartLemmas as lemma
use Rattle.serve.proofs.apart.services_apart_are_one.Goals as goal

pub returns-clause-replays : goal.returns-clause-replays
returns-clause-replays c = lemma.replays_answer_in_turn

pub returns-clause-asks : goal.returns-clause-asks
returns-clause-asks c = lemma.services_apart_are_one

pub returns-clause-exchanges : goal.returns-clause-exchanges
returns-clause-exchanges c = lemma.served_apart_are_one

pub returns-clause-strangers : goal.returns-clause-strangers
returns-clause-strangers c = lemma.strangers_have_bad_tokens

pub returns-clause-paths : goal.returns-clause-paths
returns-clause-paths c = lemma.fronts_by_path_answer_otherwise
