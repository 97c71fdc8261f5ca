use Rattle.checks.proofs.Outside.{take, AreOfOrgs}
use Rattle.checks.specs.Judging.{Judges}
use Rattle.checks.specs.Faults.{OfNoOrg}
use Rattle.checks.proofs.owners.all_of_orgs.Given as goal

abbrev pub invariant-loop-row : goal.invariant-loop-row
invariant-loop-row g l = Judges (OfNoOrg l.orgs (take l.row-index l.rows)) (AreOfOrgs l.orgs (take l.row-index l.rows)) l.fn.found l.found
