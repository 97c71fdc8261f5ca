use Rattle.wire.proofs.ReadingLemmas.{reads_more}
use Rattle.wire.proofs.laws.stays_read.Goals as goal

pub returns : goal.returns
returns c = reads_more
