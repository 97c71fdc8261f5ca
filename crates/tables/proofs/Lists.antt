-- The versions above a number, and lists that are changed in places.
use Rattle.tables.proofs.Outside.{◌≡◌, ℕ, ◌+◌, ◌<◌, ◌≤◌, nat_lt, Bool, true, false, not, ◌||◌, cond, List, [], ◌∷◌, filter, refl, ap, ◌∙◌, arith, lt-ltb, le-ltb, ltb-true, ltb-false, list_any, update_where, delete_where, Version}

not_below : (m n : ℕ) → not (nat_lt m (n + 1)) ≡ nat_lt n m
not_below m n = by_test (nat_lt n m) refl
  where
    by_test : (b : Bool) → nat_lt n m ≡ b → not (nat_lt m (n + 1)) ≡ b
    by_test true e = ap not (le-ltb m (n + 1) (let above : n < m = ltb-true n m e in omega (arith, above)))
    by_test false e = ap not (lt-ltb m (n + 1) (let under : m ≤ n = ltb-false n m e in omega (arith, under)))

-- those up to a number go, and those above it are left
pub below_gone : (last : ℕ) (vs : List Version) → delete_where (λ (v : Version). nat_lt v.number (last + 1)) vs ≡ filter (λ (v : Version). nat_lt last v.number) vs
below_gone last [] = refl
below_gone last (v ∷ vs) = ap (λ (b : Bool). cond b (v ∷ delete_where (λ (u : Version). nat_lt u.number (last + 1)) vs) (delete_where (λ (u : Version). nat_lt u.number (last + 1)) vs)) (not_below v.number last)
    ∙ ap (λ (us : List Version). cond (nat_lt last v.number) (v ∷ us) us) (below_gone last vs)

pub any_updated : {X : Type 0} (q p : X → Bool) (f : X → X) → ((x : X) → q (f x) ≡ q x) → (xs : List X) → list_any q (update_where p f xs) ≡ list_any q xs
any_updated q p f stays [] = refl
any_updated q p f stays (x ∷ xs) = λ i. elim (p x) as (λ b. q (cond b (f x) x) ≡ q x) [ true ↦ stays x | false ↦ refl ] i || any_updated q p f stays xs i
