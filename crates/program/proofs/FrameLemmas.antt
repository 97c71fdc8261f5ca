-- Frames one after another: one more, and no other reading.
use Rattle.std.proofs.Common.{◌≡◌, ℕ, List, [], ◌∷◌, ◌++◌, Bool, true, false, Option, Some, None, refl, ap, subst, append-nil, nat_eq, length, sym, ◌∙◌, arith, ◌≢◌, eqb-true}
use Rattle.serve.specs.declared.steps.Step.{Step}
use Rattle.program.specs.Frames.{first_frame, Ends, AreFrames, IsOnlyReading}

no_frame : (bytes : List ℕ) (is_bad : Bool) → Ends bytes is_bad → first_frame bytes ≡ None
no_frame bytes false h = rw h refl
no_frame bytes true h = h.1

same_end : (bytes : List ℕ) (one other : Bool) → Ends bytes one → Ends bytes other → other ≡ one
same_end bytes true true h g = refl
same_end bytes false false h g = refl
same_end bytes true false h g = absurd (h.0 g)
same_end bytes false true h g = absurd (g.0 h)

apart : {X : Type 0} (found : Option X) (x : X) → found ≡ None → found ≡ Some x → ⊥
apart found x h g = cc

same_found : {X Y : Type 0} (found : Option (X × Y)) (p q : X × Y) → found ≡ Some p → found ≡ Some q → q ≡ p
same_found found p q h g = cc

pub only_reading : (bytes : List ℕ) (steps : List Step) (is_bad : Bool) → AreFrames bytes steps is_bad → IsOnlyReading bytes steps is_bad
only_reading bytes [] is_bad h [] other g = (refl, same_end bytes is_bad other h g)
only_reading bytes [] is_bad h (t ∷ others) other (left, f, g) = absurd (apart _ _ (no_frame bytes is_bad h) f)
only_reading bytes (s ∷ steps) is_bad (rest, e, h) [] other g = absurd (apart _ _ (no_frame bytes other g) e)
only_reading bytes (s ∷ steps) is_bad (rest, e, h) (t ∷ others) other (left, f, g) =
    let pair = same_found (first_frame bytes) (s, rest) (t, left) e f in
    let P : List ℕ → Type 0 = λ bs. AreFrames bs others other in
    let (tail, end) = only_reading rest steps is_bad h others other (subst P (ap (λ (p : Step × List ℕ). p.1) pair) g) in
    let head : t ≡ s = ap (λ (p : Step × List ℕ). p.0) pair in
    (cc, end)

-- the end of the rest is the end of all
pub ended : (bytes : List ℕ) (steps : List Step) (rest : List ℕ) (is_bad : Bool)
    → ((more : List Step) (bad : Bool) → AreFrames rest more bad → AreFrames bytes (steps ++ more) bad)
    → Ends rest is_bad → AreFrames bytes steps is_bad
ended bytes steps rest is_bad h e =
    let P : List Step → Type 0 = λ ss. AreFrames bytes ss is_bad in
    subst P (append-nil steps) (h [] is_bad e)

pub nothing_left : (rest : List ℕ) (r : Bool) → r ≡ nat_eq (length rest) 0 → r ≡ true → rest ≡ []
nothing_left [] r h g = refl
nothing_left (b ∷ rest) r h g = absurd (omega (arith, eqb-true (length (b ∷ rest)) 0 (sym h ∙ g)))

pub something_left : (rest : List ℕ) (r : Bool) → r ≡ nat_eq (length rest) 0 → r ≡ false → rest ≢ []
something_left [] r h g e = cc
something_left (b ∷ rest) r h g e = cc
