use Rattle.std.proofs.Common.{◌≡◌, map, take, option_copied}
use Rattle.machine.specs.Showing.{workspaces_listed}
use Rattle.machine.proofs.lists.list_workspaces.Given as goal

-- the list of the workspaces so far
abbrev pub invariant-loop-entry : goal.invariant-loop-entry
invariant-loop-entry l = l.list ≡ workspaces_listed (option_copied l.after) l.prefix (map (λ e. (e.name, e.value)) (take l.entry-index l.entries))
