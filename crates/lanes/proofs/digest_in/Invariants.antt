use Rattle.std.proofs.Common.{◌≡◌, ◌*◌, length, take}
use Rattle.sha2.specs.Sha256.{digest_bytes}
use Rattle.lanes.specs.Inner.Lanes.{state_of}
use Rattle.lanes.proofs.digest_in.Given as goal

abbrev pub invariant-words : goal.invariant-words
invariant-words l = (length l.out ≡ 32) × (take (4 * l.i) l.out ≡ digest_bytes (state_of l.lane l.state) l.i)
