use Rattle.std.proofs.Common.{◌≡◌, drop}
use Rattle.program.specs.Batches.{first_command}
use Rattle.program.proofs.carrying.first_command.Given as goal

-- no line so far has a command
abbrev pub invariant-loop-line : goal.invariant-loop-line
invariant-loop-line l = first_command (drop l.line-index l.lines) ≡ first_command l.lines
