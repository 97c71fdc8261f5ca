-- Whether an organization is the same in two databases.
use Rattle.std.specs.Prelude.{◌≡◌, ℕ, List, Bool, map, IsTrue, Result, IfOk}
use Rattle.sqlite_trees.specs.declared.store.Store.{Ghosts}
use Rattle.sqlite.specs.Held.{Held, state}
use Rattle.sqlite.specs.State.{HasCleanDisk}
use Rattle.machine.specs.declared.records.Token.{Token}
use Rattle.statements.specs.declared.rows.NamedToken.{NamedToken}
use Rattle.statements.specs.Tables.{Tables, Holds}
use Rattle.tables.specs.Records.{record_of}
use Rattle.tables.specs.Sound.{IsSound}
use Rattle.tables.specs.Inner.Imports.{token_entry}

-- the rows of both denote the same for this
abbrev pub AreAlike : {X Y : Type 0} → (Tables → X → Y) → X → Tables → Tables → Type 0
AreAlike h x f t = h f x ≡ h t x

-- the same for each of a list
abbrev pub AreMappedAlike : {X Y : Type 0} → (Tables → X → Y) → List X → Tables → Tables → Type 0
AreMappedAlike h xs f t = map (h f) xs ≡ map (h t) xs

-- a token with its expiry and prefix
abbrev pub entry_of : List ℕ → Tables → NamedToken → List ℕ × Token
entry_of org t x = token_entry t org x

abbrev pub IsSameRecord : List ℕ → Tables → Tables → Type 0
IsSameRecord org f t = record_of f org ≡ record_of t org

-- Two connections were read: if the answer is that they agree, and both stayed clean, their sound rows are in this relation.
abbrev pub Agree : {S E : Type 0} → Ghosts S → (Tables → Tables → Type 0) → (a b p q : Held S) → Result Bool E → Type 0
Agree g R a b p q result = HasCleanDisk (state g b) → HasCleanDisk (state g q)
    → IfOk result (λ same. IsTrue same → (f t : Tables) → Holds (state g a).now f → IsSound f → Holds (state g p).now t → IsSound t → R f t)

-- the same for the rows that they have committed
abbrev pub AgreeCommitted : {S E : Type 0} → Ghosts S → (Tables → Tables → Type 0) → (a b p q : Held S) → Result Bool E → Type 0
AgreeCommitted g R a b p q result = HasCleanDisk (state g b) → HasCleanDisk (state g q)
    → IfOk result (λ same. IsTrue same → IsTrue (state g a).is_open × IsTrue (state g p).is_open
    × ((f t : Tables) → Holds (state g a).committed f → IsSound f → Holds (state g p).committed t → IsSound t → R f t))
