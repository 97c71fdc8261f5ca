-- Contracts between functions: where a name is among entries with rising names, and where it would be inserted.
use Rattle.std.specs.Prelude.{◌≡◌, ℕ, Bool, true, false, ◌<◌, ◌≤◌, List, get_or, set, length, Some, None}
use Rattle.std.specs.List.{insert}
use Rattle.std.specs.FinMap.{find, put}
use Rattle.machine.specs.Order.{name_cmp}
use Rattle.machine.specs.Records.{count_of}
use Rattle.machine.specs.declared.acts.Edit.{Edit}
use Rattle.machine.specs.declared.acts.Edit.TheVariants.{Make, Configure, Remove, AddVersion, Purge, Hold, Release, AddRun, Report}
use Rattle.machine.specs.declared.keeps.OrgRow.{OrgRow}
use Rattle.machine.specs.declared.records.Organization.{Organization}

-- entry i has the name: it gives the value, and a new value of the name replaces its value
pub record IsAt {X : Type 0} (name : List ℕ) (es : List (List ℕ × X)) (i : ℕ) : Type 0 where
  pub within : i < length es
  pub named : (d : List ℕ × X) → (get_or es i d).0 ≡ name
  pub found : (d : List ℕ × X) → find name_cmp name es ≡ Some (get_or es i d).1
  pub replaced : (v : X) → put name_cmp name v es ≡ set es i (name, v)

-- no entry has the name, and an entry that is inserted for it becomes entry i
pub record IsGapFor {X : Type 0} (name : List ℕ) (es : List (List ℕ × X)) (i : ℕ) : Type 0 where
  pub within : i ≤ length es
  pub absent : find name_cmp name es ≡ None
  pub inserted : (v : X) → put name_cmp name v es ≡ insert es i (name, v)

-- an organization's row in the list of all organizations
abbrev pub org_row : List ℕ → Organization → OrgRow
org_row name o = record { name = name; workspaces = count_of o; limit = o.limit }

-- whether the edit deletes the workspace
abbrev pub is_removal : Edit → Bool
is_removal (Make settings) = false
is_removal (Configure settings outgoing) = false
is_removal Remove = true
is_removal (AddVersion version outgoing) = false
is_removal Purge = false
is_removal (Hold id text) = false
is_removal (Release id) = false
is_removal (AddRun number ask created) = false
is_removal (Report number action status frees) = false
