use Rattle.std.proofs.Common.{◌≡◌, [], take}
use Rattle.checks.specs.Judging.{OfSome, Decides, AreReported}
use Rattle.checks.specs.Faults.{table_fault}
use Rattle.checks.proofs.defined.other_tables.Given as goal

abbrev pub invariant-loop-name : goal.invariant-loop-name
invariant-loop-name l = record {
  decides : Decides (take l.name-index l.names ≡ []) l.found;
  reported : AreReported (OfSome (λ name f. f ≡ table_fault name) (take l.name-index l.names)) l.found.faults;
}
