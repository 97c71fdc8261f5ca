use Rattle.wire.proofs.ReadingLemmas.{reads_one}
use Rattle.wire.proofs.laws.one_reading.Goals as goal

pub returns : goal.returns
returns c = reads_one
