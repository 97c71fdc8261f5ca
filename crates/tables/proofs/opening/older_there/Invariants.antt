use Rattle.std.proofs.Common.{◌≡◌, ◌≤◌, false}
use Rattle.tables.specs.Opening.{older_there}
use Rattle.tables.proofs.opening.older_there.Given as goal

-- none of the versions so far is there
abbrev pub invariant-loop-schema_version : goal.invariant-loop-schema_version
invariant-loop-schema_version l = (1 ≤ l.schema_version) × (older_there l.schema_version l.schema ≡ false)
