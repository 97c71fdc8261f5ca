-- When what is kept in memory about an organization's workspaces is correct.
use Rattle.std.specs.Prelude.{◌≡◌, ℕ, List, Option, Some, None, IfSome}
use Rattle.std.specs.FinMap.{get}
use Rattle.machine.specs.Records.{count_of}
use Rattle.machine.specs.declared.records.Organization.{Organization}
use Rattle.tables.specs.declared.counts.WorkspaceCount.{WorkspaceCount}

-- for the organization that it names, the count is the number of workspaces, and the workspace that it names does not exist
pub record IsCount (rows : List ℕ → Option Organization) (c : WorkspaceCount) : Type 0 where
  pub count : (o : Organization) → rows c.org ≡ Some o → c.count ≡ count_of o
  pub absent : (o : Organization) → rows c.org ≡ Some o → IfSome c.absent (λ ws. get o.workspaces ws ≡ None)

-- the same, if anything is kept
abbrev pub IsCachedCount : (List ℕ → Option Organization) → Option WorkspaceCount → Type 0
IsCachedCount rows cached = IfSome cached (IsCount rows)
