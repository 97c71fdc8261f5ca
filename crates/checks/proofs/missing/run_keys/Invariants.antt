use Rattle.std.proofs.Common.{take}
use Rattle.checks.specs.Inner.Missing.{HasRunKeys}
use Rattle.checks.proofs.missing.run_keys.Given as goal

abbrev pub invariant-loop-row : goal.invariant-loop-row
invariant-loop-row l = HasRunKeys (take l.row-index l.runs) l.keys
