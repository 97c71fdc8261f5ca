use Rattle.std.proofs.Common.{◌≡◌, ℕ, ◌<◌, [], length, slice_index_or}
use Rattle.lanes.specs.Inner.Lanes.{one_of, state_of}
use Rattle.lanes.proofs.TurnLemmas.{Follows}
use Rattle.lanes.proofs.digests.Given as goal

abbrev pub invariant-blocks-2 : goal.invariant-blocks-2
invariant-blocks-2 l = (length l.out ≡ 4) × ((j : ℕ) → j < 4 → Follows (one_of j l.a l.b l.c l.d) (state_of j l.state) (slice_index_or l.out j []) l.n)
