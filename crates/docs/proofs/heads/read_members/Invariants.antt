use Rattle.docs.proofs.Outside.{◌≡◌, ℕ, ◌≤◌, length, members, value, Members, no_members, of_members, converted}
use Rattle.docs.specs.Inner.Heads.{IsHeadOf}
use Rattle.docs.proofs.heads.read_members.Given as goal

abbrev pub invariant-members : goal.invariant-members
invariant-members l =
    (n : ℕ) × (old : Members) × (length l.reader ≤ n)
    × (converted (λ ms. of_members ms no_members) (members (value l.depth) (length l.initial.reader) l.initial.reader) ≡ converted (λ ms. of_members ms old) (members (value l.depth) n l.reader))
    × IsHeadOf l.head old

abbrev pub decreases-members : goal.decreases-members
decreases-members l = length l.reader
