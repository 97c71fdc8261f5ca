-- Lists in which what passes a test is found, counted, put at the end and taken away.
use Rattle.texts.proofs.Outside.{◌≡◌, ◌≤◌, ℕ, ◌+◌, Bool, true, false, not, cond, List, [], ◌∷◌, ◌++◌, length, filter, find, Some, refl, sym, ap, ◌∙◌, subst, arith, false_from_ne_true, true≢false, length-append, delete_where, AreApart, all_weaker, none_deleted}
use Rattle.std.proofs.lemmas.List.Elements.{filter-append}

module _ {X : Type 0} where
  module _ (p : X → Bool) where
    -- how many pass, with one more at the end
    pub counted_more : (xs : List X) (x : X) → length (filter p (xs ++ x ∷ [])) ≡ length (filter p xs) + cond (p x) 1 0
    counted_more xs x = ap length (filter-append p xs (x ∷ [])) ∙ length-append (filter p xs) (filter p (x ∷ [])) ∙ ap (λ k. length (filter p xs) + k) (go (p x))
      where
        go : (b : Bool) → length (cond b (x ∷ []) []) ≡ cond b 1 0
        go true = refl
        go false = refl

    -- one that is found by any test and passes is counted
    pub counted_some : (q : X → Bool) (xs : List X) (x : X) → find q xs ≡ Some x → p x ≡ true → 1 ≤ length (filter p xs)
    counted_some q [] x e is = absurd (let no_one : ⊥ = cc in no_one)
    counted_some q (y ∷ ys) x e is = go (q y) (p y) refl e (λ f. counted_some q ys x f is)
      where
        go : (a b : Bool) → p y ≡ b → cond a (Some y) (find q ys) ≡ Some x → (find q ys ≡ Some x → 1 ≤ length (filter p ys)) → 1 ≤ length (cond b (y ∷ filter p ys) (filter p ys))
        go a true f e more = omega arith
        go false false f e more = more e
        go true false f e more = let same : y ≡ x = cc in absurd (true≢false (sym is ∙ subst (λ (z : X). p z ≡ false) same f))

  -- where no two that pass are apart, the one that is found is the one that goes
  pub counted_less : (clash : X → X → Bool) (p q : X → Bool) → ((a b : X) → p a ≡ true → p b ≡ true → clash a b ≡ true) → (xs : List X) (x : X) → AreApart clash xs → find p xs ≡ Some x
      → length (filter q xs) ≡ length (filter q (delete_where p xs)) + cond (q x) 1 0
  counted_less clash p q clashes [] x apart e = absurd (let no_one : ⊥ = cc in no_one)
  counted_less clash p q clashes (y ∷ ys) x apart e = go (p y) refl e (λ f. counted_less clash p q clashes ys x apart.1 f)
    where
      alone : p y ≡ true → delete_where p ys ≡ ys
      alone is = none_deleted p ys (all_weaker (λ z. clash y z ≡ false) (λ z. p z ≡ false) (λ z none. false_from_ne_true (p z) (λ f. true≢false (sym (clashes y z is f) ∙ none))) ys apart.0)

      first : (b : Bool) → length (cond b (y ∷ filter q ys) (filter q ys)) ≡ length (filter q ys) + cond b 1 0
      first true = omega arith
      first false = omega arith

      later : (b : Bool) (k : ℕ) → length (filter q ys) ≡ length (filter q (delete_where p ys)) + k
          → length (cond b (y ∷ filter q ys) (filter q ys)) ≡ length (cond b (y ∷ filter q (delete_where p ys)) (filter q (delete_where p ys))) + k
      later true k more = omega (arith, more)
      later false k more = more

      go : (b : Bool) → p y ≡ b → cond b (Some y) (find p ys) ≡ Some x → (find p ys ≡ Some x → length (filter q ys) ≡ length (filter q (delete_where p ys)) + cond (q x) 1 0)
          → length (cond (q y) (y ∷ filter q ys) (filter q ys)) ≡ length (filter q (cond (not b) (y ∷ delete_where p ys) (delete_where p ys))) + cond (q x) 1 0
      go true is found more =
          let same : y ≡ x = cc in
          first (q y) ∙ ap (λ (l : List X). length (filter q l) + cond (q y) 1 0) (sym (alone is)) ∙ ap (λ (z : X). length (filter q (delete_where p ys)) + cond (q z) 1 0) same
      go false is found more = later (q y) (cond (q x) 1 0) (more found)
