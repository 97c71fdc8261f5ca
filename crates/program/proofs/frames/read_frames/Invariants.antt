use Rattle.std.proofs.Common.{List, ◌++◌, length, Bool}
use Rattle.serve.specs.declared.steps.Step.{Step}
use Rattle.program.specs.Frames.{AreFrames}
use Rattle.program.proofs.frames.read_frames.Given as goal

-- what the rest turns out to be follows the steps so far
abbrev pub invariant-frames : goal.invariant-frames
invariant-frames l = (more : List Step) (is_bad : Bool) → AreFrames l.rest more is_bad → AreFrames l.bytes (l.steps.items ++ more) is_bad

abbrev pub decreases-frames : goal.decreases-frames
decreases-frames l = length l.rest
