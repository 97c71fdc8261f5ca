use Rattle.std.specs.Io.KnownBytes.{Keeps}
use Rattle.system.proofs.streams.TimedRead.read.Given as goal

-- the tries so far gave nothing
abbrev pub invariant-tries : goal.invariant-tries
invariant-tries g l = Keeps (g.H.Half.left l.fn.self.half) (g.H.Half.left l.self.half)
