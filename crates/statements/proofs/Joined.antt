-- The only row of an answer: it shows the only row of a table that passes, with that of another table that LEFT JOIN adds.
use Rattle.statements.proofs.Outside.{◌≡◌, ◌≢◌, ℕ, Bool, true, false, cond, List, [], ◌∷◌, ◌++◌, map, filter, flat_map, find, slice_get, Some, None, refl, sym, ap, ap₂, ◌∙◌, subst, IsPermutation, list_all, length_permutation, Row, Trees, Term, Env, holds, eval_all, Query, Join, Output, inner, left, end, matches, or_nulls, output, page, IsAnswer, only_one, flat_map-map, flat_map_same_on, flat_map_none, filter-map, filter_same, slice_get-filter}
use Rattle.std.proofs.lemmas.List.Concat.{flat_map_single}
use Rattle.statements.specs.Rows.{Kept, stored}
use Rattle.statements.proofs.Lefts.{row_or}

-- a query for rows of one table in no order, each with what further steps of FROM add to it
abbrev pub matching : Query → ℕ → Join → Query
matching rest tree more = record rest { from = inner tree more; group = None; distinct = false; order = [] }

module _ {B : Type 0} where
  front_empty : (xs ys : List B) → xs ++ ys ≡ [] → xs ≡ []
  front_empty [] ys e = refl
  front_empty (x ∷ xs) ys e = absurd (cc)

  front_one : (xs ys : List B) (b : B) → xs ≢ [] → xs ++ ys ≡ b ∷ [] → xs ≡ b ∷ []
  front_one [] ys b some e = absurd (some refl)
  front_one (x ∷ xs) ys b some e =
      let here : x ≡ b = cc in
      let later : xs ++ ys ≡ [] = cc in
      ap₂ ◌∷◌ here (front_empty xs ys later)

-- of the lists of those that pass, put together
module _ {A B : Type 0} (p : A → Bool) (f : A → List B) (some : (x : A) → f x ≢ []) where
  abbrev parts : List A → List B
  parts xs = flat_map (λ x. cond (p x) (f x) []) xs

  none_passes : (xs : List A) → parts xs ≡ [] → find p xs ≡ None
  none_passes [] e = refl
  none_passes (x ∷ xs) e = go (p x) e (none_passes xs)
    where
      go : (b : Bool) → cond b (f x) [] ++ parts xs ≡ [] → (parts xs ≡ [] → find p xs ≡ None) → cond b (Some x) (find p xs) ≡ None
      go true e more = absurd (some x (front_empty (f x) (parts xs) e))
      go false e more = more e

  one_passes : (y : B) (xs : List A) → parts xs ≡ y ∷ [] → (x : A) × (find p xs ≡ Some x) × (f x ≡ y ∷ [])
  one_passes y [] e = absurd (cc)
  one_passes y (x ∷ xs) e = go (p x) e (one_passes y xs)
    where
      go : (b : Bool) → cond b (f x) [] ++ parts xs ≡ y ∷ [] → (parts xs ≡ y ∷ [] → (z : A) × (find p xs ≡ Some z) × (f z ≡ y ∷ [])) → (z : A) × (cond b (Some x) (find p xs) ≡ Some z) × (f z ≡ y ∷ [])
      go true e more = (x, refl, front_one (f x) (parts xs) y (some x) e)
      go false e more = more e

module _ {A B : Type 0} (f : A → B) where
  pub map_none : (xs : List A) → map f xs ≡ [] → xs ≡ []
  map_none [] e = refl
  map_none (x ∷ xs) e = absurd (cc)

  map_one : (xs : List A) (y : B) → map f xs ≡ y ∷ [] → (x : A) × (xs ≡ x ∷ []) × (f x ≡ y)
  map_one [] y e = absurd (cc)
  map_one (x ∷ xs) y e =
      let here : f x ≡ y = cc in
      let later : map f xs ≡ [] = cc in
      (x, ap (λ l. x ∷ l) (map_none xs later), here)

  all_or_none : (b : Bool) (xs : List A) → flat_map (λ x. cond b (f x ∷ []) []) xs ≡ cond b (map f xs) []
  all_or_none true xs = flat_map_single f xs
  all_or_none false xs = flat_map_none (λ _. []) (λ x. refl) xs

-- a list that stands in the place of one with one element or none, in another order
module _ {X : Type 0} where
  same_none : (xs : List X) → IsPermutation xs [] → xs ≡ []
  same_none [] same = refl
  same_none (x ∷ xs) same = absurd (let long = length_permutation (x ∷ xs) [] same in cc)

  same_one : (xs : List X) (y : X) → IsPermutation xs (y ∷ []) → xs ≡ y ∷ []
  same_one [] y same = absurd (let long = length_permutation [] (y ∷ []) same in cc)
  same_one (x ∷ []) y same = sym (only_one x (y ∷ []) same)
  same_one (x ∷ z ∷ xs) y same = absurd (let long = length_permutation (x ∷ z ∷ xs) (y ∷ []) same in cc)

module _ {Y : Type 0} (cells : Y → Row) where
  never_none : (ys : List Y) → or_nulls (map cells ys) ≢ []
  never_none [] e = absurd (cc)
  never_none (y ∷ ys) e = absurd (cc)

  first_or : (ys : List Y) (r : Row) → or_nulls (map cells ys) ≡ r ∷ [] → r ≡ row_or cells (slice_get ys 0)
  first_or [] r e = cc
  first_or (y ∷ ys) r e = cc

module _ {R Q : Type 0} (cells : R → Row) (others : Q → Row) (db : Trees) (tree : ℕ) (xs : List (Kept R)) (held : db tree ≡ map (stored cells) xs) (other : ℕ) (ys : List (Kept Q)) (there : db other ≡ map (stored others) ys)
    (rest : Query) (params : Row) (on : List Term) (p : Kept R → Bool) (tests : (x : Kept R) (r : Row) → list_all (holds (params ∷ stored cells x ∷ r ∷ [])) rest.filter ≡ p x)
    (m : Kept R → Kept Q → Bool) (ons : (x : Kept R) (y : Kept Q) → list_all (holds (params ∷ stored cells x ∷ stored others y ∷ [])) on ≡ m x y) where
  abbrev q : Query
  q = matching rest tree (left other on end)

  abbrev whole : Kept R → Row → Env
  whole x r = params ∷ stored cells x ∷ r ∷ []

  abbrev joined : Kept R → List Row
  joined x = or_nulls (map (stored others) (filter (m x) ys))

  abbrev below : Row → List Env
  below r = matches db rest.filter (left other on end) (params ∷ r ∷ [])

  joined_is : (x : Kept R) → or_nulls (filter (λ r. list_all (holds (whole x r)) on) (db other)) ≡ joined x
  joined_is x =
      let passes = λ (r : Row). list_all (holds (whole x r)) on in
      ap (λ l. or_nulls (filter passes l)) there ∙ ap or_nulls (filter-map passes (stored others) ys ∙ ap (map (stored others)) (filter_same _ (m x) (ons x) ys))

  below_is : (x : Kept R) → below (stored cells x) ≡ cond (p x) (map (whole x) (joined x)) []
  below_is x =
      let kept = λ (r : Row). cond (list_all (holds (whole x r)) rest.filter) (whole x r ∷ []) [] in
      ap (flat_map kept) (joined_is x) ∙ flat_map_same_on kept (λ r. cond (p x) (whole x r ∷ []) []) (λ r. ap (λ b. cond b (whole x r ∷ []) []) (tests x r)) (joined x) ∙ all_or_none (whole x) (p x) (joined x)

  abbrev all : List Env
  all = flat_map (λ x. cond (p x) (map (whole x) (joined x)) []) xs

  matched : matches db rest.filter (inner tree (left other on end)) (params ∷ []) ≡ all
  matched = ap (flat_map below) held ∙ flat_map-map below (stored cells) xs ∙ flat_map_same_on _ (λ x. cond (p x) (map (whole x) (joined x)) []) below_is xs

  some_joined : (x : Kept R) → map (whole x) (joined x) ≢ []
  some_joined x e = never_none (stored others) (filter (m x) ys) (map_none (whole x) (joined x) e)

  arranged : (rows : List Row) (a : IsAnswer q db params rows) → IsPermutation (map (output q) all) a.ordered
  arranged rows a = subst (λ l. IsPermutation l a.ordered) (a.distinct ∙ ap (map (output q)) (a.grouped ∙ matched)) a.same

  module _ (unpaged : (l : List Row) → page q params l ≡ l) where
    pub none_is : IsAnswer q db params [] → find p xs ≡ None
    none_is a =
        let ordered : a.ordered ≡ [] = map_none (λ (o : Output). o.1) a.ordered (sym (a.shown ∙ unpaged _)) in
        let none = same_none (map (output q) all) (subst (IsPermutation (map (output q) all)) ordered (arranged [] a)) in
        none_passes p (λ x. map (whole x) (joined x)) some_joined xs (map_none (output q) all none)

    pub one_is : (row : Row) → IsAnswer q db params (row ∷ []) → (x : Kept R) × (find p xs ≡ Some x) × (row ≡ eval_all rest.project (whole x (row_or (stored others) (find (m x) ys))))
    one_is row a =
        let ordered = map_one (λ (o : Output). o.1) a.ordered row (sym (a.shown ∙ unpaged _)) in
        let one = same_one (map (output q) all) ordered.0 (subst (IsPermutation (map (output q) all)) ordered.1 (arranged (row ∷ []) a)) in
        let env = map_one (output q) all ordered.0 one in
        let passes = one_passes p (λ x. map (whole x) (joined x)) some_joined env.0 xs env.1 in
        let found = map_one (whole passes.0) (joined passes.0) env.0 passes.2 in
        let joins : found.0 ≡ row_or (stored others) (find (m passes.0) ys) =
        first_or (stored others) (filter (m passes.0) ys) found.0 found.1 ∙ ap (row_or (stored others)) (slice_get-filter (m passes.0) ys) in
        (passes.0, passes.1, sym ordered.2 ∙ sym (ap (λ (o : Output). o.1) env.2) ∙ sym (ap (eval_all rest.project) found.2) ∙ ap (λ r. eval_all rest.project (whole passes.0 r)) joins)
