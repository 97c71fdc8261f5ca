use Rattle.std.proofs.Common.{◌≡◌, List, ℕ, ◌++◌, length}
use Rattle.std.specs.Io.KnownBytes.{Appends}
use Rattle.program.proofs.logs.write_bytes.Given as goal

abbrev pub invariant-writing : goal.invariant-writing
invariant-writing g l = (prefix : List ℕ) × (l.bytes ≡ prefix ++ l.rest) × Appends (g.O.Write.contents l.initial.output) (g.O.Write.contents l.output) prefix

abbrev pub decreases-writing : goal.decreases-writing
decreases-writing g l = length l.rest
