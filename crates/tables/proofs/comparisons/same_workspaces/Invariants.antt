use Rattle.sqlite.specs.declared.error.Error.{Error}
use Rattle.tables.specs.Records.{workspace_by}
use Rattle.tables.proofs.Comparing.{SoFar}
use Rattle.tables.proofs.comparisons.same_workspaces.Given as goal

-- the items so far are the same
abbrev pub invariant-items : goal.invariant-items
invariant-items g l = SoFar g.S.Store Error (λ t. workspace_by t l.org) l.names l.name-index l.fn.one l.one l.fn.other l.other
