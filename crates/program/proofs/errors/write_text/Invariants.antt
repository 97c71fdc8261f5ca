use Rattle.std.proofs.Common.{◌≡◌, List, ℕ, ◌++◌, length}
use Rattle.program.specs.Streams.{GetsAll}
use Rattle.program.proofs.errors.write_text.Given as goal

abbrev pub invariant-writing : goal.invariant-writing
invariant-writing g l = (prefix : List ℕ) × (l.text ≡ prefix ++ l.rest) × GetsAll (g.E.ErrorStream.reported l.initial.errors) (g.E.ErrorStream.reported l.errors) prefix

abbrev pub decreases-writing : goal.decreases-writing
decreases-writing g l = length l.rest
