use Rattle.std.proofs.Common.{◌≡◌, ℕ, ◌<◌, get_or, false}
use Rattle.wire.specs.Targets.{ends_host}
use Rattle.wire.proofs.heads.host_len.Given as goal

abbrev pub invariant-loop-i : goal.invariant-loop-i
invariant-loop-i l = (k : ℕ) → k < l.i → ends_host (get_or l.rest k 0) ≡ false
