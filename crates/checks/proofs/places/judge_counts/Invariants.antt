use Rattle.checks.proofs.Outside.{take, AllByRecursion}
use Rattle.checks.specs.Judging.{Judges}
use Rattle.checks.specs.Faults.{PagesMiscounted}
use Rattle.checks.specs.Pages.{IsCountedIn}
use Rattle.checks.proofs.places.judge_counts.Given as goal

-- the pages so far are looked at
abbrev pub invariant-loop-head : goal.invariant-loop-head
invariant-loop-head l = Judges (PagesMiscounted l.vpages (take l.head-index l.heads)) (AllByRecursion (IsCountedIn l.vpages) (take l.head-index l.heads)) l.fn.found l.found
