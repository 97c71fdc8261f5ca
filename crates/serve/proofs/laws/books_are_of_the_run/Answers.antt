use Rattle.serve.proofs.BookLemmas as lemma
use Rattle.serve.proofs.laws.books_are_of_the_run.Goals as goal

pub returns : goal.returns
returns c = lemma.books_are_of_the_run
