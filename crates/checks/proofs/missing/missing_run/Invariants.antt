use Rattle.checks.proofs.Outside.{◌≤◌, List, Kept, RunRow}
use Rattle.checks.specs.Missing.{HasRunsBelow}
use Rattle.checks.specs.Inner.Missing.{HasRunKeys}
use Rattle.checks.proofs.missing.missing_run.Given as goal

-- the runs so far are there
abbrev pub invariant-loop-number : goal.invariant-loop-number
invariant-loop-number l = record {
  least : 1 ≤ l.number;
  lower : (runs : List (Kept RunRow)) → HasRunKeys runs l.keys → HasRunsBelow runs l.row l.number;
}
