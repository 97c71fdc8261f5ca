-- What lies at the path of a database in memory.
use Rattle.std.specs.Prelude.{◌≡◌, ℕ, List, Option, Some, None}
use Rattle.machine.specs.declared.keeps.Keep as keep

-- the store that is kept; where none is kept yet, one without an organization
abbrev pub IsKeptStore : {K : Type 0} → keep.Ghosts K → Option K → K → Type 0
IsKeptStore k (Some kept) store = store ≡ kept
IsKeptStore k None store = k.sound store × ((org : List ℕ) → k.rows store org ≡ None)
