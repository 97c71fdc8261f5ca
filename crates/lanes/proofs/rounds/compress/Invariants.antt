use Rattle.std.proofs.Common.{ℕ, List, ◌<◌, ◌*◌}
use Rattle.sha2.specs.Sha256.{IsRoundsAt, IsWindow, schedule}
use Rattle.lanes.specs.Inner.Lanes.{state_of, words_of}
use Rattle.lanes.proofs.rounds.compress.Given as goal

abbrev pub invariant-schedule : goal.invariant-schedule
invariant-schedule l = (j : ℕ) → j < 4 → (b : List ℕ) → IsWindow (words_of j l.fn.w) (schedule b 48) 16
    → IsRoundsAt b (state_of j l.state) (words_of j l.w) (state_of j l.v) (16 * l.turn)
