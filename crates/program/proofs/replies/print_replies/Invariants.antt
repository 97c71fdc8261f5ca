use Rattle.std.proofs.Common.{take}
use Rattle.std.specs.Io.KnownBytes.{Appends}
use Rattle.program.specs.Replies.{printed}
use Rattle.program.proofs.replies.print_replies.Given as goal

-- what the replies so far print has been written
abbrev pub invariant-loop-reply : goal.invariant-loop-reply
invariant-loop-reply g l = Appends (g.W.Write.contents l.initial.output) (g.W.Write.contents l.output) (printed (take l.reply-index l.replies))
