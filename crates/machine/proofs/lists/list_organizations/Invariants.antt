use Rattle.std.proofs.Common.{◌≡◌, map, take}
use Rattle.machine.specs.Inner.Places.{org_row}
use Rattle.machine.proofs.lists.list_organizations.Given as goal

-- a row for each entry so far
abbrev pub invariant-loop-entry : goal.invariant-loop-entry
invariant-loop-entry l = l.rows ≡ map (λ e. org_row e.name e.value) (take l.entry-index l.entries)
