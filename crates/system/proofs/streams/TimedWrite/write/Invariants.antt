use Rattle.std.specs.Io.KnownBytes.{Keeps}
use Rattle.system.proofs.streams.TimedWrite.write.Given as goal

-- the tries so far took nothing
abbrev pub invariant-tries : goal.invariant-tries
invariant-tries g l = Keeps (g.H.Half.taken l.fn.self.half) (g.H.Half.taken l.self.half)
