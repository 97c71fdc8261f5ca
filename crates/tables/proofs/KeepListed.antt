-- A list that is made row by row, with a read of the tables for each.
use Rattle.tables.proofs.Outside.{◌≡◌, ℕ, ◌+◌, ◌<◌, List, [], ◌∷◌, ◌++◌, map, take, length, get_or, Ok, sym, ap, ◌∙◌, map_more, Ghosts, Held, Equals, Sees, Tables, sees_as}
use Rattle.tables.proofs.KeepFound.{seen_both}

-- one row more, put behind the others
pub seen_more : {S A R L : Type 0} (g : Ghosts S) (D E : Type 0) (f : List R → L) (row : Tables → A → R) (xs : List A) (i : ℕ) (x : A) (a b c : Held S) (old new : L) (r : R) → i < length xs → x ≡ get_or xs i x
    → Sees {E = D} g (Equals (λ t. f (map (row t) (take i xs)))) a b (Ok old) → Sees {E = E} g (Equals (λ t. row t x)) b c (Ok r) → ((ys : List R) → old ≡ f ys → new ≡ f (ys ++ r ∷ []))
    → Sees {E = D} g (Equals (λ t. f (map (row t) (take (i + 1) xs)))) a c (Ok new)
seen_more g D E f row xs i x a b c old new r within is before one more =
    sees_as g (λ s t. Equals (λ u. f (map (row u) (take i xs))) old t × Equals (λ u. row u x) s t) (Equals (λ t. f (map (row t) (take (i + 1) xs)))) a c r new
    (λ t reported. more (map (row t) (take i xs)) reported.0
    ∙ ap (λ y. f (map (row t) (take i xs) ++ y ∷ [])) reported.1
    ∙ sym (ap f (map_more (row t) xs i x within ∙ ap (λ y. map (row t) (take i xs) ++ row t y ∷ []) (sym is))))
    (seen_both g (Equals (λ t. f (map (row t) (take i xs)))) (Equals (λ t. row t x)) a b c old r before one)
