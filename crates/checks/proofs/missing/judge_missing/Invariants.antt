use Rattle.checks.proofs.Outside.{take, AllByRecursion}
use Rattle.checks.specs.Judging.{Judges}
use Rattle.checks.specs.Faults.{RunsMissing}
use Rattle.checks.specs.Missing.{HasItsRuns}
use Rattle.checks.proofs.missing.judge_missing.Given as goal

-- the rows so far are looked at
abbrev pub invariant-loop-row : goal.invariant-loop-row
invariant-loop-row l = Judges (RunsMissing l.runs (take l.row-index l.wss)) (AllByRecursion (λ x. HasItsRuns l.runs x.1) (take l.row-index l.wss)) l.fn.found l.found
