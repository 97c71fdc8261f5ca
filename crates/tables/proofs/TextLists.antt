-- Lists of which the least that passes goes, together with those that pass a narrower test with it.
use Rattle.tables.proofs.Outside.{◌≡◌, ◌≤◌, suc, Bool, true, false, not, cond, List, [], ◌∷◌, filter, find, length, slice_get, Option, Some, None, refl, sym, ap, subst, ◌∙◌, arith, Ordering, Equal, is_gt, IsTotalOrder, AllByRecursion, length_permutation, IsAscending, delete_where, sort_by, all_weaker, all-filter, all-slice_get, filter-filter, slice_get-filter, IsPermutation-sort_by, AtMost, all_sorted, sorted_as_is, filter-sort_by}

module _ {X : Type 0} where
  -- where none passes, none goes
  pub none_goes : (p : X → Bool) (xs : List X) → length (filter p xs) ≤ 0 → delete_where p xs ≡ xs
  none_goes p [] few = refl
  none_goes p (x ∷ xs) few = go (p x) few (none_goes p xs)
    where
      go : (b : Bool) → length (cond b (x ∷ filter p xs) (filter p xs)) ≤ 0 → (length (filter p xs) ≤ 0 → delete_where p xs ≡ xs) → cond (not b) (x ∷ delete_where p xs) (delete_where p xs) ≡ x ∷ xs
      go true few more = absurd (omega (arith, few))
      go false few more = ap (λ (ys : List X). x ∷ ys) (more few)

  pub filter_fewer : (p q : X → Bool) → ((x : X) → p x ≡ true → q x ≡ true) → (xs : List X) → length (filter p xs) ≤ length (filter q xs)
  filter_fewer p q within [] = omega arith
  filter_fewer p q within (x ∷ xs) = go (p x) (q x) (within x) (filter_fewer p q within xs)
    where
      go : (a b : Bool) → (a ≡ true → b ≡ true) → length (filter p xs) ≤ length (filter q xs) → length (cond a (x ∷ filter p xs) (filter p xs)) ≤ length (cond b (x ∷ filter q xs) (filter q xs))
      go true true h more = omega (arith, more)
      go true false h more = absurd (let none : ⊥ = cc (h refl) in none)
      go false true h more = omega (arith, more)
      go false false h more = more

  module _ (p q : X → Bool) (within : (x : X) → p x ≡ true → q x ≡ true) where
    pub absorbed : (xs : List X) → delete_where q (delete_where p xs) ≡ delete_where q xs
    absorbed xs = filter-filter (λ x. not (q x)) (λ x. not (p x)) (λ x e. go (p x) (q x) (within x) e) xs
      where
        go : (a b : Bool) → (a ≡ true → b ≡ true) → not b ≡ true → not a ≡ true
        go true true h e = e
        go true false h e = absurd (let none : ⊥ = cc (h refl) in none)
        go false b h e = refl

    pub fewer_left : (xs : List X) (x : X) → find p xs ≡ Some x → suc (length (filter q (delete_where p xs))) ≤ length (filter q xs)
    fewer_left [] x e = absurd (let none : ⊥ = cc in none)
    fewer_left (y ∷ ys) x e = go (p y) (q y) refl (within y) e (λ f. fewer_left ys x f)
      where
        rest : length (filter q (delete_where p ys)) ≤ length (filter q ys)
        rest = no_more ys
          where
            no_more : (zs : List X) → length (filter q (delete_where p zs)) ≤ length (filter q zs)
            no_more [] = omega arith
            no_more (z ∷ zs) = by_tests (p z) (q z) refl (no_more zs)
              where
                by_tests : (a b : Bool) → q z ≡ b → length (filter q (delete_where p zs)) ≤ length (filter q zs)
                    → length (filter q (cond (not a) (z ∷ delete_where p zs) (delete_where p zs))) ≤ length (cond b (z ∷ filter q zs) (filter q zs))
                by_tests true true f more = omega (arith, more)
                by_tests true false f more = more
                by_tests false true f more = rw f (omega (arith, more))
                by_tests false false f more = rw f more

        go : (a b : Bool) → q y ≡ b → (a ≡ true → b ≡ true) → cond a (Some y) (find p ys) ≡ Some x → (find p ys ≡ Some x → suc (length (filter q (delete_where p ys))) ≤ length (filter q ys))
            → suc (length (filter q (cond (not a) (y ∷ delete_where p ys) (delete_where p ys)))) ≤ length (cond b (y ∷ filter q ys) (filter q ys))
        go true true g h e more = let kept = rest in omega (arith, kept)
        go true false g h e more = absurd (let none : ⊥ = cc (h refl) in none)
        go false true g h e more = let less = more e in rw g (omega (arith, less))
        go false false g h e more = rw g (more e)

pub all_passing : {X : Type 0} (p : X → Bool) (xs : List X) → AllByRecursion (λ x. p x ≡ true) (filter p xs)
all_passing p [] = tt
all_passing p (x ∷ xs) = go (p x) refl (all_passing p xs)
  where
    go : (b : Bool) → p x ≡ b → AllByRecursion (λ y. p y ≡ true) (filter p xs) → AllByRecursion (λ y. p y ≡ true) (cond b (x ∷ filter p xs) (filter p xs))
    go true e more = (e, more)
    go false e more = more

-- ---- the least of those that pass a test

module _ {X : Type 0} (cmp : X → X → Ordering) (q : X → Bool) where
  abbrev pub least : List X → Option X
  least xs = slice_get (sort_by cmp (filter q xs)) 0

  pub least_holds : (P : X → Type 0) (xs : List X) (x : X) → AllByRecursion P xs → least xs ≡ Some x → P x
  least_holds P xs x all e = all-slice_get P (sort_by cmp (filter q xs)) 0 x e (all_sorted cmp P (filter q xs) (all-filter P q xs all))

  pub least_passes : (xs : List X) (x : X) → least xs ≡ Some x → q x ≡ true
  least_passes xs x e = all-slice_get (λ y. q y ≡ true) (sort_by cmp (filter q xs)) 0 x e (all_sorted cmp (λ y. q y ≡ true) (filter q xs) (all_passing q xs))

  module _ (total : IsTotalOrder cmp) where
    pub none_least : (xs : List X) → least xs ≡ None → length (filter q xs) ≡ 0
    none_least xs e = length_permutation (sort_by cmp (filter q xs)) (filter q xs) (IsPermutation-sort_by cmp total (filter q xs)) ∙ no_first (sort_by cmp (filter q xs)) e
      where
        no_first : (zs : List X) → slice_get zs 0 ≡ None → length zs ≡ 0
        no_first [] f = refl
        no_first (z ∷ zs) f = absurd (let none : ⊥ = cc in none)

    -- If it passes a narrower test, and all that do are tied, then it is the first that does.
    module _ (p : X → Bool) (within : (x : X) → p x ≡ true → q x ≡ true) (tied : (x y : X) → p x ≡ true → p y ≡ true → cmp x y ≡ Equal) where
      tied_up : (xs : List X) → AllByRecursion (λ x. p x ≡ true) xs → IsAscending (AtMost cmp) xs
      tied_up [] all = tt
      tied_up (x ∷ xs) all = (all_weaker (λ y. p y ≡ true) (AtMost cmp x) (λ y e. ap is_gt (tied x y all.0 e)) xs all.1, tied_up xs all.1)

      passed_first : (zs : List X) (x : X) → slice_get zs 0 ≡ Some x → p x ≡ true → slice_get (filter p zs) 0 ≡ Some x
      passed_first [] x e is = absurd (let none : ⊥ = cc in none)
      passed_first (z ∷ zs) x e is = let same : z ≡ x = cc in rw (subst (λ y. p y ≡ true) (sym same) is) e

      pub least_within : (xs : List X) (x : X) → least xs ≡ Some x → p x ≡ true → find p xs ≡ Some x
      least_within xs x e is =
          sym (slice_get-filter p xs)
          ∙ ap (λ l. slice_get l 0) (sym (filter-sort_by cmp total p (filter q xs) ∙ ap (sort_by cmp) (filter-filter p q within xs) ∙ sorted_as_is cmp (filter p xs) (tied_up (filter p xs) (all_passing p xs))))
          ∙ passed_first (sort_by cmp (filter q xs)) x e is
