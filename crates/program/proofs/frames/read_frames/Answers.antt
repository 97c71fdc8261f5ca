use Rattle.std.proofs.Common.{true, false, rules}
use Rattle.program.proofs.FrameLemmas.{ended, nothing_left, something_left, only_reading}
use Rattle.program.proofs.frames.read_frames.Goals as goal

pub returns-in-Err-Syntax-clause-frames : goal.returns-in-Err-Syntax-clause-frames
returns-in-Err-Syntax-clause-frames c =
    ended c.args.bytes.now c.frames.steps.items c.frames.rest.now true c.frames.invariant (something_left _ _ c.is_empty.ensures c.frames-test.true, c.in-Err-Syntax.ensures.syntax (search rules))

pub returns-in-Err-Syntax-clause-only : goal.returns-in-Err-Syntax-clause-only
returns-in-Err-Syntax-clause-only c =
    only_reading _ _ _ (returns-in-Err-Syntax-clause-frames c)

pub returns-clause-frames : goal.returns-clause-frames
returns-clause-frames c =
    ended c.args.bytes.now c.frames.steps.items c.frames.rest.now false c.frames.invariant (nothing_left _ _ c.is_empty.ensures c.frames-test.false)

pub returns-clause-only : goal.returns-clause-only
returns-clause-only c = only_reading _ _ _ (returns-clause-frames c)
