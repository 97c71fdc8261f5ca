use Rattle.serve.proofs.BookLemmas as lemma
use Rattle.serve.proofs.laws.custody_is_kept.Goals as goal

pub returns : goal.returns
returns c = lemma.custody_is_kept
