use Rattle.checks.proofs.Outside.{List, take, AllByRecursion, PageHead, Kept, VpageRow}
use Rattle.checks.specs.Judging.{Judges}
use Rattle.checks.specs.Faults.{TextsBroken}
use Rattle.checks.specs.Pages.{HasTextIn}
use Rattle.checks.specs.Inner.Places.{HasPieces, AreRuns}
use Rattle.checks.proofs.places.judge_wholes.Given as goal

-- the versions so far are looked at, and the runs that are known are right
abbrev pub invariant-loop-row : goal.invariant-loop-row
invariant-loop-row l = record {
  judged : (heads : List PageHead) (vpages : List (Kept VpageRow)) → HasPieces heads vpages l.pieces → Judges (TextsBroken heads vpages (take l.row-index l.versions)) (AllByRecursion (λ x. HasTextIn heads vpages x.1) (take l.row-index l.versions)) l.fn.found l.found;
  known : (heads : List PageHead) (vpages : List (Kept VpageRow)) → HasPieces heads vpages l.pieces → AreRuns heads vpages l.runs;
}
