-- What a check reports.
use Rattle.std.specs.Prelude.{◌≡◌, ◌≤◌, ◌<◌, ◌⊎◌, ℕ, Bool, true, List, [], ◌∷◌, ◌++◌, length, cond, nat_le, Option, All, Contains}
use Rattle.checks.specs.declared.found.Fault.{Fault}
use Rattle.checks.specs.declared.found.FaultKind.{FaultKind}
use Rattle.checks.specs.declared.found.Found.{Found}
use Rattle.checks.specs.declared.found.TheConstants.{MAX_FAULTS}

-- no fault was found
abbrev pub IsClean : Found → Type 0
IsClean found = found.faults ≡ []

-- the fault of this kind that names these
abbrev pub fault_of : FaultKind → List ℕ → List ℕ → Option ℕ → Fault
fault_of kind org ws number = record { kind = kind; org = org; ws = ws; number = number }

-- the law does not hold, and this is the fault that reports it
abbrev pub Breaks : Type 0 → Fault → Fault → Type 0
Breaks law fault f = (¬ law) × (f ≡ fault)

-- the fault is that of one of the items
abbrev pub OfSome : {X : Type 0} → (X → Fault → Type 0) → List X → Fault → Type 0
OfSome Says [] f = ⊥
OfSome Says (x ∷ xs) f = Says x f ⊎ OfSome Says xs f

-- an item clashes with an earlier one, and this is its fault
abbrev pub OfClash : {X : Type 0} → (X → X → Bool) → (X → Fault) → List X → Fault → Type 0
OfClash clash fault [] f = ⊥
OfClash clash fault (x ∷ xs) f = OfSome (λ y g. (clash x y ≡ true) × (g ≡ fault y)) xs f ⊎ OfClash clash fault xs f

-- the faults with one more, if there is room for it
abbrev pub noted : Fault → List Fault → List Fault
noted f faults = cond (nat_le MAX_FAULTS (length faults)) faults (faults ++ f ∷ [])

-- After the faults noted before come faults that are to be reported, at most 50 in all. If there are fewer, every fault that is to be reported
-- is among them.
pub record Adds (Says : Fault → Type 0) (old new : List Fault) : Type 0 where
  pub faults : List Fault
  pub are : new ≡ old ++ faults
  pub right : All Says faults
  pub few : length old ≤ MAX_FAULTS → length new ≤ MAX_FAULTS
  pub every : length new < MAX_FAULTS → (f : Fault) → Says f → Contains faults f

-- A check found nothing new exactly if the law holds: if the list is empty afterwards, it was empty before, and the law holds; and if the law
-- holds, nothing is found. What it adds are the faults that it says.
pub record Judges (Says : Fault → Type 0) (law : Type 0) (old new : Found) : Type 0 where
  pub reported : IsClean new → IsClean old × law
  pub spared : IsClean old → law → IsClean new
  pub adds : Adds Says old.faults new.faults

-- no fault was found exactly if the law holds
pub record Decides (law : Type 0) (found : Found) : Type 0 where
  pub holds : IsClean found → law
  pub clean : law → IsClean found

-- Each of these faults is to be reported, and they are at most 50. If they are fewer, every fault that is to be reported is among them.
pub record AreReported (Says : Fault → Type 0) (faults : List Fault) : Type 0 where
  pub right : All Says faults
  pub few : length faults ≤ MAX_FAULTS
  pub every : length faults < MAX_FAULTS → (f : Fault) → Says f → Contains faults f
