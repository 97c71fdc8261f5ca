-- The record of an organization, or none, and its workspaces.
use Rattle.std.specs.Prelude.{ℕ, nat_lt, Bool, List, length, Option, Some, None, option_and_then}
use Rattle.std.specs.FinMap.{FinMap, entries, get, insert, remove}
use Rattle.machine.specs.Order.{name_cmp}
use Rattle.machine.specs.declared.records.Workspace.{Workspace}
use Rattle.machine.specs.declared.records.Organization.{Organization}

-- the workspace with this name, if it exists
abbrev pub workspace_in : Option Organization → List ℕ → Option Workspace
workspace_in o name = option_and_then (λ (p : Organization). get p.workspaces name) o

-- the number of an organization's workspaces
abbrev pub count_of : Organization → ℕ
count_of o = length (entries o.workspaces)

-- a workspace as the rules see it: missing, and whether the organization's limit leaves room for one more; or there
pub data Seen : Type 0 where
  missing : Bool → Seen
  there : Workspace → Seen

abbrev pub seen_by : Bool → Option Workspace → Seen
seen_by room None = missing room
seen_by room (Some w) = there w

abbrev pub seen_in : Organization → List ℕ → Seen
seen_in o name = seen_by (nat_lt (count_of o) o.limit) (get o.workspaces name)

-- the workspace, if it exists
abbrev pub standing : Seen → Option Workspace
standing (missing room) = None
standing (there w) = Some w

-- the workspaces after that of one name is set or removed
abbrev pub with_workspace : FinMap name_cmp Workspace → List ℕ → Option Workspace → FinMap name_cmp Workspace
with_workspace m name None = remove m name
with_workspace m name (Some w) = insert m name w

-- the organization after the workspace of one name is set or removed
abbrev pub placed : Organization → List ℕ → Option Workspace → Organization
placed o name w = record o { workspaces = with_workspace o.workspaces name w }
