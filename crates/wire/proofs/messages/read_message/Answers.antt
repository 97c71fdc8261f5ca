use Rattle.wire.proofs.AnswerLemmas.{reports}
use Rattle.wire.proofs.messages.read_message.Goals as goal

pub returns-clause-known : goal.returns-clause-known
returns-clause-known g c =
    let answer = c.read_through.ensures.answer in
    reports _ _ answer.0 _ _ c.read_through.result answer.1 answer.2
