use Rattle.checks.proofs.Outside.{take, AllByRecursion}
use Rattle.checks.specs.Judging.{OfSome, Judges}
use Rattle.checks.specs.Inner.Workspaces.{IsLawfulAt, OfGroups}
use Rattle.checks.proofs.workspaces.judge_rows.Given as goal

abbrev pub invariant-loop-row : goal.invariant-loop-row
invariant-loop-row l = Judges (OfSome (λ x. OfGroups l.groups x.1) (take l.row-index l.wss)) (AllByRecursion (λ x. IsLawfulAt l.groups x.1) (take l.row-index l.wss)) l.fn.found l.found
