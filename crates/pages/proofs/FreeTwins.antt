-- The least number under which no page of a key is kept, and the search for it from 0 on.
use Rattle.pages.proofs.Outside.{◌≡◌, ◌<◌, ◌≤◌, ℕ, zero, suc, ◌+◌, ◌-◌, nat_lt, true, cond, List, is_some, Option, Some, None, inl, inr, refl, ap, ◌∙◌, subst, arith, cases_Bool, ltb-true, ltb-false, State, HasCleanDisk, LeavesAsIs, Tables, Holds}
use Rattle.pages.specs.Rows.{page_uses}
use Rattle.pages.specs.Puts.{twin_limit, free_from, free_twin}

one_less : (m n : ℕ) → n < m → m - n ≡ suc (m - (n + 1))
one_less m n low = omega (arith, low)

module _ (key : List ℕ) (limit twin : ℕ) (t : Tables) (low : twin < limit) where
  at_twin : free_from key (limit - twin) twin t ≡ cond (is_some (page_uses key twin t)) (free_from key (limit - (twin + 1)) (twin + 1) t) twin
  unfolding free_from
  at_twin = ap (λ left. free_from key left twin t) (one_less limit twin low)

  pub free_on : (uses : ℕ) → page_uses key twin t ≡ Some uses → free_from key (limit - twin) twin t ≡ free_from key (limit - (twin + 1)) (twin + 1) t
  free_on uses there = at_twin ∙ ap (λ o. cond (is_some o) (free_from key (limit - (twin + 1)) (twin + 1) t) twin) there

  pub free_here : page_uses key twin t ≡ None → free_from key (limit - twin) twin t ≡ twin
  free_here none = at_twin ∙ ap (λ o. cond (is_some o) (free_from key (limit - (twin + 1)) (twin + 1) t) twin) none

-- no page is kept under it, if it is below the end of the search
pub free_is : (key : List ℕ) (left n : ℕ) (t : Tables) → free_from key left n t < n + left → page_uses key (free_from key left n t) t ≡ None
unfolding free_from
free_is key zero n t low = absurd (omega (arith, low))
free_is key (suc left) n t low = go (page_uses key n t) refl low (free_is key left (n + 1) t)
  where
    go : (o : Option ℕ) → page_uses key n t ≡ o → cond (is_some o) (free_from key left (n + 1) t) n < n + suc left
        → (free_from key left (n + 1) t < n + 1 + left → page_uses key (free_from key left (n + 1) t) t ≡ None) → page_uses key (cond (is_some o) (free_from key left (n + 1) t) n) t ≡ None
    go None e below more = e
    go (Some u) e below more = more (omega (arith, below))

-- a page is kept under each below it
pub free_least : (key : List ℕ) (left n : ℕ) (t : Tables) (m : ℕ) → n ≤ m → m < free_from key left n t → is_some (page_uses key m t) ≡ true
unfolding free_from
free_least key zero n t m above below = absurd (omega (arith, above, below))
free_least key (suc left) n t m above below = go (page_uses key n t) refl below (free_least key left (n + 1) t m)
  where
    go : (o : Option ℕ) → page_uses key n t ≡ o → m < cond (is_some o) (free_from key left (n + 1) t) n
        → (n + 1 ≤ m → m < free_from key left (n + 1) t → is_some (page_uses key m t) ≡ true) → is_some (page_uses key m t) ≡ true
    go None e under more = absurd (omega (arith, above, under))
    go (Some u) e under more = elim (cases_Bool (nat_lt n m)) [
      | inl higher ↦ let from : n < m = ltb-true n m higher in more (omega (arith, from)) under
      | inr lower ↦ let to : m ≤ n = ltb-false n m lower in let same : n ≡ m = omega (arith, to, above) in subst (λ k. is_some (page_uses key k t) ≡ true) same (ap is_some e)
    ]

-- the search, when it looks at this number
pub record FreeSoFar (key : List ℕ) (twin : ℕ) (old new : State) : Type 0 where
  pub so_far : HasCleanDisk new → HasCleanDisk old
  pub shield : old.IsShielded → new.IsShielded
  pub unchanged : HasCleanDisk new → LeavesAsIs old new
  pub left : HasCleanDisk new → (t : Tables) → Holds old.now t → free_from key (twin_limit - twin) twin t ≡ free_twin key t

pub free_begin : (key : List ℕ) (t : Tables) → free_from key (twin_limit - 0) 0 t ≡ free_twin key t
unfolding free_twin
free_begin key t = refl
