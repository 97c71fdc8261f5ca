use Rattle.sqlite.specs.declared.error.Error.{Error}
use Rattle.tables.specs.Records.{version_at}
use Rattle.tables.proofs.Comparing.{SoFar}
use Rattle.tables.proofs.comparisons.same_versions.Given as goal

-- the items so far are the same
abbrev pub invariant-items : goal.invariant-items
invariant-items g l = SoFar g.S.Store Error (λ t. version_at t l.org l.ws) l.heads l.head-index l.fn.one l.one l.fn.other l.other
