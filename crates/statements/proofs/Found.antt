-- What is found in a list after a write, and in a list of rows that are apart.
use Rattle.statements.proofs.Outside.{◌≡◌, Bool, true, false, not, cond, List, [], ◌∷◌, ◌++◌, filter, find, Some, None, option_map, refl, sym, ap, subst, ◌∙◌, AllByRecursion, update_where, delete_where, AreApart, all_weaker, ascending-append, filter_all}

module _ {X : Type 0} where
  pub found_passes : (p : X → Bool) (xs : List X) (x : X) → find p xs ≡ Some x → p x ≡ true
  found_passes p [] x e = absurd (let none : ⊥ = cc in none)
  found_passes p (y ∷ ys) x e = go (p y) refl e (found_passes p ys x)
    where
      go : (b : Bool) → p y ≡ b → cond b (Some y) (find p ys) ≡ Some x → (find p ys ≡ Some x → p x ≡ true) → p x ≡ true
      go true is e more = let same : y ≡ x = cc in subst (λ (z : X). p z ≡ true) same is
      go false is e more = more e

  module _ (p : X → Bool) where
    pub find_changed : (g : X → X) → ((x : X) → p (g x) ≡ p x) → (xs : List X) → find p (update_where p g xs) ≡ option_map g (find p xs)
    find_changed g stays [] = refl
    find_changed g stays (x ∷ xs) = go (p x) refl (find_changed g stays xs)
      where
        go : (b : Bool) → p x ≡ b → find p (update_where p g xs) ≡ option_map g (find p xs)
            → cond (p (cond b (g x) x)) (Some (cond b (g x) x)) (find p (update_where p g xs)) ≡ option_map g (cond b (Some x) (find p xs))
        go true e more = rw (stays x ∙ e) refl
        go false e more = rw e more

    pub none_passes : (xs : List X) → find p xs ≡ None → AllByRecursion (λ x. p x ≡ false) xs
    none_passes [] e = tt
    none_passes (x ∷ xs) e = go (p x) refl e (none_passes xs)
      where
        go : (b : Bool) → p x ≡ b → cond b (Some x) (find p xs) ≡ None → (find p xs ≡ None → AllByRecursion (λ y. p y ≡ false) xs) → (p x ≡ false) × AllByRecursion (λ y. p y ≡ false) xs
        go true is none more = absurd (let no_one : ⊥ = cc in no_one)
        go false is none more = (is, more none)

    pub none_found : (xs : List X) → AllByRecursion (λ x. p x ≡ false) xs → find p xs ≡ None
    none_found [] all = refl
    none_found (x ∷ xs) all = rw all.0 (none_found xs all.1)

    pub none_deleted : (xs : List X) → AllByRecursion (λ x. p x ≡ false) xs → delete_where p xs ≡ xs
    none_deleted xs all = filter_all (λ x. not (p x)) xs (all_weaker (λ x. p x ≡ false) (λ x. not (p x) ≡ true) (λ x e. ap not e) xs all)

    pub all_deleted : (xs : List X) → AllByRecursion (λ x. p x ≡ false) (delete_where p xs)
    all_deleted [] = tt
    all_deleted (x ∷ xs) = go (p x) refl (all_deleted xs)
      where
        go : (b : Bool) → p x ≡ b → AllByRecursion (λ y. p y ≡ false) (delete_where p xs) → AllByRecursion (λ y. p y ≡ false) (cond (not b) (x ∷ delete_where p xs) (delete_where p xs))
        go true e more = more
        go false e more = (e, more)

    pub find_deleted : (xs : List X) → find p (delete_where p xs) ≡ None
    find_deleted [] = refl
    find_deleted (x ∷ xs) = go (p x) refl (find_deleted xs)
      where
        go : (b : Bool) → p x ≡ b → find p (delete_where p xs) ≡ None → find p (cond (not b) (x ∷ delete_where p xs) (delete_where p xs)) ≡ None
        go true e more = more
        go false e more = rw e more

    pub filter_deleted : (xs : List X) → filter p (delete_where p xs) ≡ []
    filter_deleted [] = refl
    filter_deleted (x ∷ xs) = go (p x) refl (filter_deleted xs)
      where
        go : (b : Bool) → p x ≡ b → filter p (delete_where p xs) ≡ [] → filter p (cond (not b) (x ∷ delete_where p xs) (delete_where p xs)) ≡ []
        go true e more = more
        go false e more = rw e more

    pub find_pushed : (xs : List X) (x : X) → find p xs ≡ None → p x ≡ true → find p (xs ++ x ∷ []) ≡ Some x
    find_pushed [] x none e = rw e refl
    find_pushed (y ∷ ys) x none e = go (p y) none (λ rest. find_pushed ys x rest e)
      where
        go : (b : Bool) → cond b (Some y) (find p ys) ≡ None → (find p ys ≡ None → find p (ys ++ x ∷ []) ≡ Some x) → cond b (Some y) (find p (ys ++ x ∷ [])) ≡ Some x
        go true none more = absurd (let no_one : ⊥ = cc in no_one)
        go false none more = more none

    pub find_pushed_other : (xs : List X) (x : X) → p x ≡ false → find p (xs ++ x ∷ []) ≡ find p xs
    find_pushed_other [] x e = rw e refl
    find_pushed_other (y ∷ ys) x e = ap (cond (p y) (Some y)) (find_pushed_other ys x e)

    module _ (q : X → Bool) (apart : (x : X) → q x ≡ true → p x ≡ false) where
      pub find_unchanged : (g : X → X) → ((x : X) → p (g x) ≡ p x) → (xs : List X) → find p (update_where q g xs) ≡ find p xs
      find_unchanged g stays [] = refl
      find_unchanged g stays (x ∷ xs) = go (q x) refl (find_unchanged g stays xs)
        where
          go : (b : Bool) → q x ≡ b → find p (update_where q g xs) ≡ find p xs
              → cond (p (cond b (g x) x)) (Some (cond b (g x) x)) (find p (update_where q g xs)) ≡ cond (p x) (Some x) (find p xs)
          go true e more = rw (stays x ∙ apart x e, apart x e) more
          go false e more = ap (cond (p x) (Some x)) more

      pub find_left : (xs : List X) → find p (delete_where q xs) ≡ find p xs
      find_left [] = refl
      find_left (x ∷ xs) = go (q x) refl (find_left xs)
        where
          go : (b : Bool) → q x ≡ b → find p (delete_where q xs) ≡ find p xs
              → find p (cond (not b) (x ∷ delete_where q xs) (delete_where q xs)) ≡ cond (p x) (Some x) (find p xs)
          go true e more = rw (apart x e) more
          go false e more = ap (cond (p x) (Some x)) more

  pub found_holds : (P : X → Type 0) (p : X → Bool) (xs : List X) (x : X) → AllByRecursion P xs → find p xs ≡ Some x → P x
  found_holds P p [] x all e = absurd (let none : ⊥ = cc in none)
  found_holds P p (y ∷ ys) x all e = go (p y) e (found_holds P p ys x all.1)
    where
      go : (b : Bool) → cond b (Some y) (find p ys) ≡ Some x → (find p ys ≡ Some x → P x) → P x
      go true e more = let same : y ≡ x = cc in subst P same all.0
      go false e more = more e

  -- of rows that are apart, two that clash are one
  pub apart_one : (clash : X → X → Bool) (p q : X → Bool) (xs : List X) (x y : X) → AreApart clash xs → find p xs ≡ Some x → find q xs ≡ Some y → clash x y ≡ true → clash y x ≡ true → x ≡ y
  apart_one clash p q [] x y apart e f c d = absurd (let none : ⊥ = cc in none)
  apart_one clash p q (z ∷ zs) x y apart e f c d = go (p z) (q z) e f (λ e f. apart_one clash p q zs x y apart.1 e f c d)
    where
      go : (a b : Bool) → cond a (Some z) (find p zs) ≡ Some x → cond b (Some z) (find q zs) ≡ Some y → (find p zs ≡ Some x → find q zs ≡ Some y → x ≡ y) → x ≡ y
      go true true e f more = cc
      go true false e f more =
          let same : z ≡ x = cc in
          let none : clash z y ≡ false = found_holds (λ w. clash z w ≡ false) q zs y apart.0 f in
          absurd (let no_one : ⊥ = cc (sym (subst (λ (w : X). clash w y ≡ false) same none) ∙ c) in no_one)
      go false true e f more =
          let same : z ≡ y = cc in
          let none : clash z x ≡ false = found_holds (λ w. clash z w ≡ false) p zs x apart.0 e in
          absurd (let no_one : ⊥ = cc (sym (subst (λ (w : X). clash w x ≡ false) same none) ∙ d) in no_one)
      go false false e f more = more e f

  pub all_updated : (P : X → Type 0) (p : X → Bool) (f : X → X) → ((x : X) → P x → P (f x)) → (xs : List X) → AllByRecursion P xs → AllByRecursion P (update_where p f xs)
  all_updated P p f keeps [] all = tt
  all_updated P p f keeps (x ∷ xs) all = (elim (p x) as (λ b. P (cond b (f x) x)) [ true ↦ keeps x all.0 | false ↦ all.0 ], all_updated P p f keeps xs all.1)

  pub apart_pushed : (clash : X → X → Bool) (xs : List X) (x : X) → AreApart clash xs → AllByRecursion (λ y. clash y x ≡ false) xs → AreApart clash (xs ++ x ∷ [])
  apart_pushed clash xs x apart all = ascending-append (λ a b. clash a b ≡ false) xs (x ∷ []) apart (tt, tt) (all_weaker (λ y. clash y x ≡ false) (λ y. AllByRecursion (λ b. clash y b ≡ false) (x ∷ [])) (λ y e. (e, tt)) xs all)
