use Rattle.std.proofs.Common.{◌≡◌, take}
use Rattle.machine.specs.Showing.{runs_listed}
use Rattle.machine.proofs.lists.list_runs.Given as goal

-- the list of the runs so far
abbrev pub invariant-loop-run : goal.invariant-loop-run
invariant-loop-run l = l.list ≡ runs_listed l.after (take l.run-index l.runs)
