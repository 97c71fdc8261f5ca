use Rattle.std.proofs.Common.{map, take}
use Rattle.checks.specs.Totals.{IsGreatest, made_at}
use Rattle.checks.proofs.totals.newest.Given as goal

abbrev pub invariant-loop-row : goal.invariant-loop-row
invariant-loop-row l = IsGreatest (map made_at (take l.row-index l.versions)) l.newest
