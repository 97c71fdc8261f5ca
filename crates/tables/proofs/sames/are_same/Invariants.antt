use Rattle.std.proofs.Common.{◌≡◌, ◌++◌, take}
use Rattle.tables.proofs.sames.are_same.Given as goal

-- the items so far are the same, and the rest follows them
abbrev pub invariant-items : goal.invariant-items
invariant-items g l = take l.x-index l.xs ++ l.rest ≡ l.ys
