use Rattle.wire.proofs.ReadingLemmas.{awaited_more}
use Rattle.wire.proofs.laws.stays_awaited.Goals as goal

pub returns : goal.returns
returns c = awaited_more
