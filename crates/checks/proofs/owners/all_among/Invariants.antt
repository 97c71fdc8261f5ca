use Rattle.checks.proofs.Outside.{take, AreAmong}
use Rattle.checks.specs.Judging.{Judges}
use Rattle.checks.specs.Faults.{Unmatched}
use Rattle.checks.proofs.owners.all_among.Given as goal

abbrev pub invariant-loop-row : goal.invariant-loop-row
invariant-loop-row g l = Judges (Unmatched l.kind g.T.Numbered.number_of l.others (take l.row-index l.rows)) (AreAmong l.others (take l.row-index l.rows)) l.fn.found l.found
