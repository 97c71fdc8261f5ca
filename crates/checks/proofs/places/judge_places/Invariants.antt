use Rattle.checks.proofs.Outside.{take, AllByRecursion}
use Rattle.checks.specs.Judging.{Judges}
use Rattle.checks.specs.Faults.{PlacesOutside}
use Rattle.checks.specs.Pages.{IsPlacedIn}
use Rattle.checks.proofs.places.judge_places.Given as goal

-- the rows so far are looked at
abbrev pub invariant-loop-row : goal.invariant-loop-row
invariant-loop-row l = Judges (PlacesOutside l.versions (take l.row-index l.vpages)) (AllByRecursion (λ x. IsPlacedIn l.versions x.1) (take l.row-index l.vpages)) l.fn.found l.found
