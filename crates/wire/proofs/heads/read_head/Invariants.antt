use Rattle.std.proofs.Common.{◌≡◌, ◌-◌, ◌≤◌, ℕ, List, ◌++◌, length, false, None}
use Rattle.std.specs.Io.KnownBytes.{Consumes}
use Rattle.wire.specs.Heads.{head_len}
use Rattle.wire.specs.Inner.Positions.{len_past}
use Rattle.wire.proofs.heads.read_head.Given as goal

abbrev pub invariant-reading : goal.invariant-reading
invariant-reading g l = record {
  sound : g.I.Inlet.broken l.inlet ≡ false;
  goes_on : g.I.Inlet.ended l.initial.inlet ≡ false → g.I.Inlet.ended l.inlet ≡ false;
  received : Consumes (g.I.Inlet.left l.initial.inlet) (g.I.Inlet.left l.inlet) l.bytes.items;
  short : length l.bytes.items ≤ 16_384;
  goes : (more : List ℕ) → head_len (l.bytes.items ++ more) ≡ len_past None (length l.bytes.items) l.position more;
}

abbrev pub decreases-reading : goal.decreases-reading
decreases-reading g l = 16_384 - length l.bytes.items
