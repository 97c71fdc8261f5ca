use Rattle.std.proofs.Common.{◌≡◌, ℕ, List, ◌++◌, drop, None}
use Rattle.wire.specs.Inner.Positions.{len_from, len_past}
use Rattle.wire.proofs.heads.end_in.Given as goal

abbrev pub invariant-loop-i : goal.invariant-loop-i
invariant-loop-i l =
    (more : List ℕ) → len_from l.initial.position (l.piece ++ more) ≡ len_past None l.i l.position (drop l.i l.piece ++ more)
