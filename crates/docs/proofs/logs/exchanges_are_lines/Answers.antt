use Rattle.docs.proofs.Lines as lemma
use Rattle.docs.proofs.logs.exchanges_are_lines.Goals as goal

pub returns : goal.returns
returns c = lemma.exchanges_are_lines
