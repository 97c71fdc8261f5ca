-- Rows by the workspace that they belong to.
use Rattle.std.specs.Prelude.{◌≡◌, ℕ, List, [], map, Vec}
use Rattle.std.specs.Borrow.{Bor}
use Rattle.std.specs.Option.{option_map_or}
use Rattle.std.specs.BTreeMap.{BTreeMap}
use Rattle.statements.specs.Rows.{Kept, Owned}
use Rattle.checks.specs.declared.keys.RowKey.{RowKey}
use Rattle.checks.specs.Workspaces.{its_of}
use Rattle.checks.specs.Inner.Firsts.{value_at}

-- what references refer to
abbrev pub lent : {T : Type 0} → List (Bor T) → List T
lent refs = map (λ r. r.now) refs

abbrev pub held : {T Z : Type 0} → Vec (Bor T) Z → List T
held refs = lent refs.items

-- what the map has at a workspace
abbrev pub group_in : {T Z : Type 0} → List ℕ → List ℕ → BTreeMap RowKey (Vec (Bor T) Z) → List T
group_in org ws m = option_map_or held (value_at org ws 0 0 m) []

-- the map has at each workspace what its rows hold
abbrev pub AreGrouped : {T Z : Type 0} → List (Kept (Owned T)) → BTreeMap RowKey (Vec (Bor T) Z) → Type 0
AreGrouped rows m = (org ws : List ℕ) → group_in org ws m ≡ its_of org ws rows
