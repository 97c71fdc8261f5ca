use Rattle.checks.proofs.Outside.{List, take, AllByRecursion, PageHead}
use Rattle.checks.specs.Judging.{Judges}
use Rattle.checks.specs.Faults.{PagesMissing}
use Rattle.checks.specs.Pages.{NamesPage}
use Rattle.checks.specs.Inner.Places.{HasPageSizes}
use Rattle.checks.proofs.places.judge_names.Given as goal

-- the rows so far are looked at
abbrev pub invariant-loop-row : goal.invariant-loop-row
invariant-loop-row l = (heads : List PageHead) → HasPageSizes heads l.sizes → Judges (PagesMissing heads (take l.row-index l.vpages)) (AllByRecursion (λ x. NamesPage heads x.1) (take l.row-index l.vpages)) l.fn.found l.found
