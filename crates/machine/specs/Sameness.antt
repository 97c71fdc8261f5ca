-- When two records hold the same things, whatever the order in which these were created: such records are equal.
use Rattle.std.specs.Prelude.{◌≡◌, ◌↔◌, ◌⊎◌, ℕ, List, [], ◌∷◌, Option, Some, None, ⊤}
use Rattle.std.specs.FinMap.{get}
use Rattle.machine.specs.Laws.{IsLawfulOrganization}
use Rattle.machine.specs.declared.records.Version.{Version}
use Rattle.basis.specs.declared.rows.RunRow.{RunRow as Run}
use Rattle.machine.specs.declared.records.Workspace.{Workspace}
use Rattle.machine.specs.declared.records.Organization.{Organization}

-- one of the list
abbrev pub IsOneOf : {A : Type 0} → A → List A → Type 0
IsOneOf x [] = ⊥
IsOneOf x (y ∷ ys) = (x ≡ y) ⊎ IsOneOf x ys

-- the same settings, holder, numbers and released ID; and a version or a run of one is a version or a run of the other
pub record HoldTheSame (w v : Workspace) : Type 0 where
  pub settings : w.settings ≡ v.settings
  pub holder : w.holder ≡ v.holder
  pub released : w.released ≡ v.released
  pub next_version : w.next_version ≡ v.next_version
  pub next_run : w.next_run ≡ v.next_run
  pub versions : (x : Version) → IsOneOf x w.versions ↔ IsOneOf x v.versions
  pub runs : (x : Run) → IsOneOf x w.runs ↔ IsOneOf x v.runs

-- both exist and hold the same, or neither exists
abbrev pub HoldTheSameIfThere : Option Workspace → Option Workspace → Type 0
HoldTheSameIfThere None None = ⊤
HoldTheSameIfThere None (Some v) = ⊥
HoldTheSameIfThere (Some w) None = ⊥
HoldTheSameIfThere (Some w) (Some v) = HoldTheSame w v

-- lawful organizations with the same limit, whose tokens and workspaces are the same by name, are equal
abbrev pub SameThingsAreEqualRecords : Type 0
SameThingsAreEqualRecords = (o p : Organization) → IsLawfulOrganization o → IsLawfulOrganization p
    → o.limit ≡ p.limit → ((name : List ℕ) → get o.tokens name ≡ get p.tokens name)
    → ((ws : List ℕ) → HoldTheSameIfThere (get o.workspaces ws) (get p.workspaces ws)) → o ≡ p
