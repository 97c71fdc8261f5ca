-- How a text follows the newest version: what is judged to come next follows it, and what follows it is let in.
use Rattle.machine.proofs.Outside.{◌≡◌, ◌⊎◌, inl, inr, ℕ, nat_lt, Bool, true, false, not, ◌&&◌, cond, List, [], ◌∷◌, length, Option, Some, None, IfSome, refl, ap, subst, arith, bytes_eq, ltb-true, lt-ltb, bytes_eq-Decides, StateHead}
use Rattle.machine.specs.Succession.{Succession, first, same, other_lineage, old_serial, next, after_newest, lineages_differ, is_newer}
use Rattle.machine.specs.Versions.{Follows, posted}
use Rattle.machine.specs.declared.records.Version.{Version}

-- lineages that don't differ are equal, or one is empty
abbrev Alike : List ℕ → List ℕ → Type 0
Alike a b = (a ≡ b) ⊎ ((a ≡ []) ⊎ (b ≡ []))

all_three : (p q r : Bool) → p ≡ true → q ≡ true → (p && q && not r) ≡ false → r ≡ true
all_three true true true p q e = refl
all_three true true false p q e = absurd (let none : ⊥ = cc in none)
all_three true false r p q e = absurd (let none : ⊥ = cc in none)
all_three false q r p is e = absurd (let none : ⊥ = cc in none)

alike : (a b : List ℕ) → lineages_differ a b ≡ false → Alike a b
alike [] b e = inr (inl refl)
alike (x ∷ a) [] e = inr (inr refl)
alike (x ∷ a) (y ∷ b) e =
    inl ((bytes_eq-Decides (x ∷ a) (y ∷ b)).0
    (all_three (nat_lt 0 (length (x ∷ a))) (nat_lt 0 (length (y ∷ b))) (bytes_eq (x ∷ a) (y ∷ b)) (lt-ltb 0 (length (x ∷ a)) (omega arith)) (lt-ltb 0 (length (y ∷ b)) (omega arith)) e))

none_differ : (p q r : Bool) → (p ≡ false) ⊎ ((q ≡ false) ⊎ (r ≡ true)) → (p && q && not r) ≡ false
none_differ false q r h = refl
none_differ true false r h = refl
none_differ true true true h = refl
none_differ true true false (inl e) = absurd (let none : ⊥ = cc in none)
none_differ true true false (inr (inl e)) = absurd (let none : ⊥ = cc in none)
none_differ true true false (inr (inr e)) = absurd (let none : ⊥ = cc in none)

empty_is_short : (a : List ℕ) → a ≡ [] → nat_lt 0 (length a) ≡ false
empty_is_short a e = ap (λ (l : List ℕ). nat_lt 0 (length l)) e

dont_differ : (a b : List ℕ) → Alike a b → lineages_differ a b ≡ false
dont_differ a b h = none_differ (nat_lt 0 (length a)) (nat_lt 0 (length b)) (bytes_eq a b) (by_case h)
  where
    by_case : Alike a b → (nat_lt 0 (length a) ≡ false) ⊎ ((nat_lt 0 (length b) ≡ false) ⊎ (bytes_eq a b ≡ true))
    by_case (inl e) = inr (inr ((bytes_eq-Decides a b).1 e))
    by_case (inr (inl e)) = inl (empty_is_short a e)
    by_case (inr (inr e)) = inr (inl (empty_is_short b e))

-- a text is the first one where there is no version
pub first_has_none : (text : List ℕ) (head : StateHead) (o : Option Version) (older : Version) → after_newest text head o ≡ first → o ≡ Some older → ⊥
first_has_none text head None older t e = let none : ⊥ = cc in none
first_has_none text head (Some v) older t e = chosen (bytes_eq v.text text) (lineages_differ v.lineage head.lineage) (is_newer v.serial head.serial) t
  where
    chosen : (a b c : Bool) → cond a same (cond b other_lineage (cond c next old_serial)) ≡ first → ⊥
    chosen true b c t = let none : ⊥ = cc in none
    chosen false true c t = let none : ⊥ = cc in none
    chosen false false true t = let none : ⊥ = cc in none
    chosen false false false t = let none : ⊥ = cc in none

-- and the next one follows the newest
pub next_follows : (text : List ℕ) (head : StateHead) (o : Option Version) (older : Version) (n now : ℕ) → after_newest text head o ≡ next → o ≡ Some older → Follows older (posted n head text now)
next_follows text head None older n now t e = absurd (let none : ⊥ = cc in none)
next_follows text head (Some v) older n now t e =
    let one : v ≡ older = cc in
    subst (λ (x : Version). Follows x (posted n head text now)) one (chosen (bytes_eq v.text text) (lineages_differ v.lineage head.lineage) (is_newer v.serial head.serial) refl refl t)
  where
    chosen : (a b c : Bool) → lineages_differ v.lineage head.lineage ≡ b → is_newer v.serial head.serial ≡ c → cond a same (cond b other_lineage (cond c next old_serial)) ≡ next
        → Follows v (posted n head text now)
    chosen true b c p q t = absurd (let none : ⊥ = cc in none)
    chosen false true c p q t = absurd (let none : ⊥ = cc in none)
    chosen false false true p q t = record { serial = ltb-true v.serial head.serial q; lineage = alike v.lineage head.lineage p }
    chosen false false false p q t = absurd (let none : ⊥ = cc in none)

-- what follows the newest, or has none before it, is neither of another lineage nor of an old serial
abbrev pub IsLetIn : Succession → Type 0
IsLetIn s = (s ≡ first) ⊎ ((s ≡ same) ⊎ (s ≡ next))

pub following_is_let_in : (text : List ℕ) (head : StateHead) (o : Option Version) (n now : ℕ) → IfSome o (λ older. Follows older (posted n head text now)) → IsLetIn (after_newest text head o)
following_is_let_in text head None n now h = inl refl
following_is_let_in text head (Some v) n now h =
    chosen (bytes_eq v.text text) (lineages_differ v.lineage head.lineage) (is_newer v.serial head.serial) (dont_differ v.lineage head.lineage h.lineage) (lt-ltb v.serial head.serial h.serial)
  where
    chosen : (a b c : Bool) → b ≡ false → c ≡ true → IsLetIn (cond a same (cond b other_lineage (cond c next old_serial)))
    chosen true b c p q = inr (inl refl)
    chosen false true c p q = absurd (let none : ⊥ = cc in none)
    chosen false false true p q = inr (inr refl)
    chosen false false false p q = absurd (let none : ⊥ = cc in none)
