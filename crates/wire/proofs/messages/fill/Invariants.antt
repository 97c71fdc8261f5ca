use Rattle.std.proofs.Common.{◌≡◌, ◌-◌, ◌≤◌, ℕ, List, ◌++◌, length, take, false}
use Rattle.std.specs.Io.KnownBytes.{Consumes}
use Rattle.wire.proofs.messages.fill.Given as goal

abbrev pub invariant-filling : goal.invariant-filling
invariant-filling g l = record {
  sound : g.I.Inlet.broken l.inlet ≡ false;
  goes_on : g.I.Inlet.ended l.initial.inlet ≡ false → g.I.Inlet.ended l.inlet ≡ false;
  received : (received : List ℕ) × Consumes (g.I.Inlet.left l.initial.inlet) (g.I.Inlet.left l.inlet) received × (take l.filled l.body ≡ take l.body_start l.initial.body ++ received);
  short : l.filled ≤ l.len;
  same : length l.body ≡ l.len;
}

abbrev pub decreases-filling : goal.decreases-filling
decreases-filling g l = l.len - l.filled
