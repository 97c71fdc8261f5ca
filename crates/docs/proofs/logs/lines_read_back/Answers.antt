use Rattle.docs.proofs.Rereading as lemma
use Rattle.docs.proofs.logs.lines_read_back.Goals as goal

pub returns : goal.returns
returns c = lemma.lines_read_back
