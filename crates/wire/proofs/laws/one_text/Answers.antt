use Rattle.wire.proofs.ReplyLemmas.{one_reply}
use Rattle.wire.proofs.laws.one_text.Goals as goal

pub returns : goal.returns
returns c = one_reply
