-- What is at paths, and what of it is unchanged. `holds` says that what a store has is what is at a path.
use Rattle.std.specs.Prelude.{◌≢◌, ℕ, Bool, true, false, List}
use Rattle.program.specs.declared.environment.Opening.{Opening}
use Rattle.program.specs.declared.environment.Opening.TheVariants.{Read, Existing, Created, Target}

-- what is at every path is unchanged
abbrev pub AllStay : {F K : Type 0} → (F → List ℕ → K → Type 0) → F → F → Type 0
AllStay {F} {K} holds old new = (path : List ℕ) (store : K) → holds old path store → holds new path store

-- what is at every path but this one is unchanged
abbrev pub OthersStay : {F K : Type 0} → (F → List ℕ → K → Type 0) → List ℕ → F → F → Type 0
OthersStay {F} {K} holds path old new = (other : List ℕ) (store : K) → other ≢ path → holds old other store → holds new other store

-- what is at every path but these two is unchanged
abbrev pub OthersStayBut : {F K : Type 0} → (F → List ℕ → K → Type 0) → List ℕ → List ℕ → F → F → Type 0
OthersStayBut {F} {K} holds from to old new = (other : List ℕ) (store : K) → other ≢ from → other ≢ to → holds old other store → holds new other store

-- whether a database may be created
abbrev pub makes : Opening → Bool
makes Read = false
makes Existing = false
makes Created = true
makes Target = true

-- whether a database of an older schema version may be raised to the newest
abbrev pub raises : Opening → Bool
raises Read = false
raises Existing = true
raises Created = true
raises Target = true

-- every path without a file, or with an empty one, is left so. Of this path, that is said only if no database may be created there
abbrev pub LeavesVacant : {F : Type 0} → (F → List ℕ → Type 0) → Bool → List ℕ → F → F → Type 0
LeavesVacant vacant true path old new = (other : List ℕ) → other ≢ path → vacant old other → vacant new other
LeavesVacant vacant false path old new = (other : List ℕ) → vacant old other → vacant new other
