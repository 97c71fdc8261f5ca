-- Removing an organization with everything in it, and what is checked first.
use Rattle.std.specs.Prelude.{◌≡◌, ℕ, nat_lt, Bool, true, false, not, ◌&&◌, ◌||◌, cond, List, Option, Some, None}
use Rattle.std.specs.List.{list_any}
use Rattle.std.specs.FinMap.{entries}
use Rattle.basis.specs.declared.rows.Holder.{Holder}
use Rattle.basis.specs.declared.rows.Holder.TheVariants.{Nobody, Lock, Run}
use Rattle.machine.specs.Custody.{IsRefusal}
use Rattle.machine.specs.Effects.{effect}
use Rattle.machine.specs.Records.{there}
use Rattle.machine.specs.Rules.{rules}
use Rattle.machine.specs.Tokens.{Managed}
use Rattle.machine.specs.Workspaces.{open_runs}
use Rattle.machine.specs.declared.acts.Act.TheVariants.{DeleteWorkspace}
use Rattle.machine.specs.declared.keeps.AdminAnswer.TheVariants.{Done, Absent, InUse}
use Rattle.machine.specs.declared.records.Workspace.{Workspace}
use Rattle.machine.specs.declared.records.Organization.{Organization}

-- a lock holds
abbrev pub is_locked : Holder → Bool
is_locked Nobody = false
is_locked (Lock id text) = true
is_locked (Run n) = false

-- a lock holds the workspace, or one of its runs is open
abbrev pub is_in_use : Workspace → Bool
is_in_use w = is_locked w.holder || nat_lt 0 (open_runs w.runs)

-- one of the organization's workspaces is in use
abbrev pub has_use : Organization → Bool
has_use o = list_any (λ (e : List ℕ × Workspace). is_in_use e.1) (entries o.workspaces)

-- removing an organization with everything in it; one that is in use is removed only if this is forced
abbrev pub org_removed : Bool → Option Organization → Managed
org_removed is_forced None = effect Absent None
org_removed is_forced (Some o) = cond (not is_forced && has_use o) (effect InUse (Some o)) (effect Done None)

-- DELETE of a workspace that is in use is refused, and DELETE of one that is not in use deletes it
abbrev pub DeleteAsksTheSame : Type 0
DeleteAsksTheSame = (now : ℕ) (w : Workspace) → (is_in_use w ≡ true → IsRefusal (rules DeleteWorkspace now (there w)).answer)
    × (is_in_use w ≡ false → (rules DeleteWorkspace now (there w)).left ≡ None)
