use Rattle.std.proofs.Common.{[], ◌∙◌, ap, take, drop}
use Rattle.std.proofs.KnownBytes.{Consumes-nil}
use Rattle.wire.proofs.AnswerLemmas.{finished, refused_here}
use Rattle.wire.proofs.messages.read_on.Goals as goal

pub returns-in-Ok-clause-answer : goal.returns-in-Ok-clause-answer
returns-in-Ok-clause-answer g c =
    let done = c.finish.ensures.finished in (
      done.0,
      done.1,
      finished c.args.received_head.bytes c.split_at.result.0.now c.split_at.result.1.now done.0 c.args.received_head.len c.in-Ok.frame _ _ _ c.finish.result
          (c.split_at.ensures.front ∙ ap (take c.args.received_head.len) c.as_slice.ensures)
          (c.split_at.ensures.back ∙ ap (drop c.args.received_head.len) c.as_slice.ensures)
          c.requires.head_end c.requires.within c.in-Ok.ensures done.2,
    )

pub returns-clause-answer : goal.returns-clause-answer
returns-clause-answer g c = (
  [],
  Consumes-nil _,
  refused_here c.args.received_head.bytes c.split_at.result.0.now c.args.received_head.len c.in-Err.fault _ _
      (c.split_at.ensures.front ∙ ap (take c.args.received_head.len) c.as_slice.ensures)
      c.requires.head_end c.requires.within c.in-Err.ensures,
)
