-- Looks at one after the other, until one is in use; and what goes one after the other.
use Rattle.tables.proofs.Outside.{◌≡◌, ℕ, ◌≤◌, ◌<◌, ◌+◌, zero, suc, Bool, true, false, ◌||◌, List, [], ◌∷◌, ◌++◌, take, length, get_or, Ok, refl, sym, ap, subst, ◌∙◌, list_any, take_more, take_all, list_any-append, or-false, Ghosts, Held, NamedToken, token_removed, Equals, Sees, Tables, sees_as}
use Rattle.tables.specs.Inner.Copies.{AreMadeBy}
use Rattle.tables.specs.Inner.Removals.{workspaces_gone, tokens_gone}
use Rattle.tables.specs.Inner.Edits.{removed_rows}
use Rattle.tables.proofs.KeepFound.{seen_both}

-- ---- looks

module _ {A : Type 0} (p : A → Bool) where
  any_last : (xs : List A) (x : A) → list_any p (xs ++ x ∷ []) ≡ (list_any p xs || p x)
  any_last xs x = list_any-append p xs (x ∷ []) ∙ ap (λ (b : Bool). list_any p xs || b) (or-false (p x))

  pub any_more : (xs : List A) (i : ℕ) (x : A) → i < length xs → x ≡ get_or xs i x → list_any p (take (i + 1) xs) ≡ (list_any p (take i xs) || p x)
  any_more xs i x within is = ap (list_any p) (take_more xs i x within) ∙ ap (λ (y : A). list_any p (take i xs ++ y ∷ [])) (sym is) ∙ any_last (take i xs) x

  -- one of the first is one of them
  any_taken : (n : ℕ) (xs : List A) → list_any p (take n xs) ≡ true → list_any p xs ≡ true
  any_taken zero xs e = absurd (let none : ⊥ = cc in none)
  any_taken (suc n) [] e = e
  any_taken (suc n) (x ∷ xs) e = go (p x) e (any_taken n xs)
    where
      go : (b : Bool) → (b || list_any p (take n xs)) ≡ true → (list_any p (take n xs) ≡ true → list_any p xs ≡ true) → (b || list_any p xs) ≡ true
      go true e more = refl
      go false e more = more e

module _ {S A : Type 0} (g : Ghosts S) (p : Tables → A → Bool) (xs : List A) where
  module _ (D E F : Type 0) (i : ℕ) (x : A) (a b c : Held S) (within : i < length xs) (is : x ≡ get_or xs i x) where
    one_more : (used : Bool) (t : Tables) → Equals (λ u. list_any (p u) (take i xs)) false t → Equals (λ u. p u x) used t → used ≡ list_any (p t) (take (i + 1) xs)
    one_more used t none one = one ∙ ap (λ (b : Bool). b || p t x) none ∙ sym (any_more (p t) xs i x within is)

    pub still_none : (used : Bool) → used ≡ false → Sees {E = D} g (Equals (λ t. list_any (p t) (take i xs))) a b (Ok false) → Sees {E = E} g (Equals (λ t. p t x)) b c (Ok used)
        → Sees {E = F} g (Equals (λ t. list_any (p t) (take (i + 1) xs))) a c (Ok false)
    still_none used is_false so one = sees_as g (λ v t. Equals (λ u. list_any (p u) (take i xs)) false t × Equals (λ u. p u x) v t) (Equals (λ t. list_any (p t) (take (i + 1) xs))) a c used false
        (λ t reported. sym is_false ∙ one_more used t reported.0 reported.1) (seen_both g (Equals (λ t. list_any (p t) (take i xs))) (Equals (λ t. p t x)) a b c false used so one)

    pub one_found : (used : Bool) → used ≡ true → Sees {E = D} g (Equals (λ t. list_any (p t) (take i xs))) a b (Ok false) → Sees {E = E} g (Equals (λ t. p t x)) b c (Ok used)
        → Sees {E = F} g (Equals (λ t. list_any (p t) xs)) a c (Ok true)
    one_found used is_true so one = sees_as g (λ v t. Equals (λ u. list_any (p u) (take i xs)) false t × Equals (λ u. p u x) v t) (Equals (λ t. list_any (p t) xs)) a c used true
        (λ t reported. sym (any_taken (p t) (i + 1) xs (sym (one_more used t reported.0 reported.1) ∙ is_true))) (seen_both g (Equals (λ t. list_any (p t) (take i xs))) (Equals (λ t. p t x)) a b c false used so one)

  pub none_found : (D : Type 0) (i : ℕ) (a b : Held S) → length xs ≤ i → Sees {E = D} g (Equals (λ t. list_any (p t) (take i xs))) a b (Ok false) → Sees {E = D} g (Equals (λ t. list_any (p t) xs)) a b (Ok false)
  none_found D i a b all so = subst (λ (ys : List A). Sees {E = D} g (Equals (λ t. list_any (p t) ys)) a b (Ok false)) (take_all i xs all) so

-- ---- what goes

module _ (org : List ℕ) where
  workspace_last : (names : List (List ℕ)) (ws : List ℕ) (t : Tables) → workspaces_gone org (names ++ ws ∷ []) t ≡ removed_rows org ws (workspaces_gone org names t)
  workspace_last [] ws t = refl
  workspace_last (n ∷ names) ws t = workspace_last names ws (removed_rows org n t)

  pub workspaces_more : (names : List (List ℕ)) (i : ℕ) (ws : List ℕ) (t u z : Tables) → i < length names → ws ≡ get_or names i ws → AreMadeBy (workspaces_gone org (take i names)) t u → AreMadeBy (removed_rows org ws) u z
      → AreMadeBy (workspaces_gone org (take (i + 1) names)) t z
  workspaces_more names i ws t u z within is one last =
      last ∙ ap (removed_rows org ws) one ∙ sym (workspace_last (take i names) ws t) ∙ ap (λ (n : List ℕ). workspaces_gone org (take i names ++ n ∷ []) t) is ∙ sym (ap (λ (ns : List (List ℕ)). workspaces_gone org ns t) (take_more names i ws within))

  token_last : (list : List NamedToken) (x : NamedToken) (t : Tables) → tokens_gone org (list ++ x ∷ []) t ≡ token_removed org x.name (tokens_gone org list t)
  token_last [] x t = refl
  token_last (y ∷ list) x t = token_last list x (token_removed org y.name t)

  pub tokens_more : (list : List NamedToken) (i : ℕ) (x : NamedToken) (t u z : Tables) → i < length list → x ≡ get_or list i x → AreMadeBy (tokens_gone org (take i list)) t u → AreMadeBy (token_removed org x.name) u z
      → AreMadeBy (tokens_gone org (take (i + 1) list)) t z
  tokens_more list i x t u z within is one last =
      last ∙ ap (token_removed org x.name) one ∙ sym (token_last (take i list) x t) ∙ ap (λ (y : NamedToken). tokens_gone org (take i list ++ y ∷ []) t) is ∙ sym (ap (λ (ys : List NamedToken). tokens_gone org ys t) (take_more list i x within))
