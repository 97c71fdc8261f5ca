use Rattle.serve.proofs.BookLemmas as lemma
use Rattle.serve.proofs.laws.periods_are_the_steps_between.Goals as goal

pub returns : goal.returns
returns c = lemma.periods_are_the_steps_between
