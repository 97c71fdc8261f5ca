use Rattle.std.proofs.Common.{◌≡◌, ℕ, ◌<◌, length, ◌*◌}
use Rattle.sha2.specs.Sha256.{word_at}
use Rattle.lanes.specs.Inner.Lanes.{lane_at, one_of}
use Rattle.lanes.proofs.blocks.words.Given as goal

abbrev pub invariant-load : goal.invariant-load
invariant-load l = (length l.w ≡ 16) × ((j : ℕ) → j < 4 → (k : ℕ) → k < l.t → lane_at l.w k j ≡ word_at (one_of j l.a l.b l.c l.d) (4 * k))
