use Rattle.std.proofs.Common.{◌≡◌, false, List, ℕ, ◌++◌, length}
use Rattle.std.specs.Io.KnownBytes.{Appends}
use Rattle.wire.proofs.replies.write_all.Given as goal

abbrev pub invariant-writing : goal.invariant-writing
invariant-writing g l = record {
  sound : g.O.Outlet.broken l.outlet ≡ false;
  done : (prefix : List ℕ) × (l.piece ≡ prefix ++ l.rest) × Appends (g.O.Outlet.written l.initial.outlet) (g.O.Outlet.written l.outlet) prefix;
}

abbrev pub decreases-writing : goal.decreases-writing
decreases-writing g l = length l.rest
