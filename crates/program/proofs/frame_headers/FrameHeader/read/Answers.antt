use Rattle.std.proofs.Common.{arith}
use Rattle.program.proofs.WordLemmas.{no_heading}
use Rattle.program.proofs.frame_headers.FrameHeader.read.Goals as goal

pub returns-in_default-clause-syntax : goal.returns-in_default-clause-syntax
returns-in_default-clause-syntax c _ = no_heading c.args.words.now (omega arith)
