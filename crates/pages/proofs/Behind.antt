-- Rows in the order of their rowids, gone through one at a time.
use Rattle.pages.proofs.Outside.{◌≡◌, ◌<ℤ◌, ℕ, ℤ, int_lt, Bool, true, false, cond, List, [], ◌∷◌, ◌++◌, map, filter, find, Option, Some, None, option_map, arith, refl, sym, ap, ◌∙◌, subst, ints, append_assoc, append-nil, IsKeyedBy, all_of, all_weaker, filter_all, PageHead, Kept, PageRow, id_of, Tables, found_holds}
use Rattle.pages.specs.declared.scans.PageRow.{PageRow as ReadRow}
use Rattle.pages.specs.declared.scans.Unhashed.{Unhashed}
use Rattle.pages.specs.Heads.{head_in}
use Rattle.pages.specs.Inner.Scans.{is_behind, page_row, unhashed_of, unhashed_row, unhashed_behind, hashed}

-- what a test lets through is none where it finds none
none_found : {X : Type 0} (p : X → Bool) (xs : List X) → find p xs ≡ None → filter p xs ≡ []
none_found p [] e = refl
none_found p (x ∷ xs) e = go (p x) e (none_found p xs)
  where
    go : (b : Bool) → cond b (Some x) (find p xs) ≡ None → (find p xs ≡ None → filter p xs ≡ []) → cond b (x ∷ filter p xs) (filter p xs) ≡ []
    go true e more = absurd (let none : ⊥ = cc in none)
    go false e more = more e

not_itself : (a : ℤ) → int_lt a a ≡ false
not_itself a = grind (arith, ints)

not_below : (a b : ℤ) → b <ℤ a → int_lt a b ≡ false
not_below a b h = grind (arith, ints)

above_too : (a b c : ℤ) → int_lt a b ≡ true → b <ℤ c → int_lt a c ≡ true
above_too a b c h k = grind (arith, ints)

above : (a b : ℤ) → a <ℤ b → int_lt a b ≡ true
above a b h = grind (arith, ints)

module _ {R : Type 0} where
  behind_too : (id : Option ℤ) (x y : Kept R) → is_behind id x ≡ true → x.0 <ℤ y.0 → is_behind id y ≡ true
  behind_too None x y is less = refl
  behind_too (Some id) x y is less = above_too id x.0 y.0 is less

  -- the rows behind one are the first of them, and those behind that
  pub rest_behind : (id : Option ℤ) (xs : List (Kept R)) (x : Kept R) → IsKeyedBy id_of xs → find (is_behind id) xs ≡ Some x → filter (is_behind id) xs ≡ x ∷ filter (is_behind (Some x.0)) xs
  rest_behind id [] x keyed e = absurd (let none : ⊥ = cc in none)
  rest_behind id (y ∷ ys) x keyed e = go (is_behind id y) refl e (rest_behind id ys x keyed.1)
    where
      go : (b : Bool) → is_behind id y ≡ b → cond b (Some y) (find (is_behind id) ys) ≡ Some x
          → (find (is_behind id) ys ≡ Some x → filter (is_behind id) ys ≡ x ∷ filter (is_behind (Some x.0)) ys)
          → cond b (y ∷ filter (is_behind id) ys) (filter (is_behind id) ys) ≡ x ∷ cond (int_lt x.0 y.0) (y ∷ filter (is_behind (Some x.0)) ys) (filter (is_behind (Some x.0)) ys)
      go true is e more =
          let same : y ≡ x = cc in
          let all = filter_all (is_behind id) ys (all_weaker (λ (z : Kept R). y.0 <ℤ z.0) (λ z. is_behind id z ≡ true) (λ z less. behind_too id y z is less) ys keyed.0) in
          let each = filter_all (is_behind (Some y.0)) ys (all_weaker (λ (z : Kept R). y.0 <ℤ z.0) (λ z. is_behind (Some y.0) z ≡ true) (λ z less. above y.0 z.0 less) ys keyed.0) in
          subst (λ (z : Kept R). y ∷ filter (is_behind id) ys ≡ z ∷ cond (int_lt z.0 y.0) (y ∷ filter (is_behind (Some z.0)) ys) (filter (is_behind (Some z.0)) ys)) same
          (ap (λ (l : List (Kept R)). y ∷ l) (all ∙ sym each ∙ sym (ap (λ (b : Bool). cond b (y ∷ filter (is_behind (Some y.0)) ys) (filter (is_behind (Some y.0)) ys)) (not_itself y.0))))
      go false is e more =
          let less : y.0 <ℤ x.0 = found_holds (λ (z : Kept R). y.0 <ℤ z.0) (is_behind id) ys x keyed.0 e in
          more e ∙ ap (λ (l : List (Kept R)). x ∷ l) (sym (ap (λ (b : Bool). cond b (y ∷ filter (is_behind (Some x.0)) ys) (filter (is_behind (Some x.0)) ys)) (not_below x.0 y.0 less)))

module _ (t : Tables) where
  -- no row is found, so there is none with what is found for it
  pub no_row : (o : Option (Kept PageRow)) → None ≡ option_map page_row o → None ≡ option_map (unhashed_row t) o
  no_row None is = refl
  no_row (Some x) is = absurd (let none : ⊥ = cc in none)

  -- the row that is found, with what is found for it
  pub one_row : (o : Option (Kept PageRow)) (page : ReadRow) (row : Unhashed) → Some page ≡ option_map page_row o → row ≡ unhashed_of page t → Some row ≡ option_map (unhashed_row t) o
  one_row None page row is reported = absurd (let none : ⊥ = cc in none)
  one_row (Some x) page row is reported =
      let same : page ≡ page_row x = cc in
      ap (λ (r : Unhashed). Some r) (reported ∙ ap (λ (p : ReadRow). unhashed_of p t) same)

module _ (key_of : List ℕ → List ℕ) (t : Tables) where
  abbrev pub behind_heads : Option ℤ → List PageHead
  behind_heads id = map (head_in key_of t) (filter (is_behind id) t.pages)

  -- the heads so far, and those of the rows that are still to come
  abbrev pub AreHeadsBefore : List PageHead → Option ℤ → Type 0
  AreHeadsBefore heads id = heads ++ behind_heads id ≡ map (head_in key_of t) t.pages

  pub heads_begin : AreHeadsBefore [] None
  heads_begin = ap (map (head_in key_of t)) (filter_all (is_behind None) t.pages (all_of (λ (x : Kept PageRow). is_behind None x ≡ true) (λ x. refl) t.pages))

  pub heads_more : (heads : List PageHead) (id : Option ℤ) (row : Unhashed) → IsKeyedBy id_of t.pages → Some row ≡ unhashed_behind id t → AreHeadsBefore heads id → AreHeadsBefore (heads ++ hashed key_of row ∷ []) (Some row.page.id)
  heads_more heads id row keyed is before = go (find (is_behind id) t.pages) refl is
    where
      go : (o : Option (Kept PageRow)) → find (is_behind id) t.pages ≡ o → Some row ≡ option_map (unhashed_row t) o → AreHeadsBefore (heads ++ hashed key_of row ∷ []) (Some row.page.id)
      go None e is = absurd (let none : ⊥ = cc in none)
      go (Some x) e is =
          let same : row ≡ unhashed_row t x = cc in
          let rest = ap (map (head_in key_of t)) (rest_behind id t.pages x keyed e) in
          subst (λ (r : Unhashed). AreHeadsBefore (heads ++ hashed key_of r ∷ []) (Some r.page.id)) (sym same)
          (append_assoc heads (head_in key_of t x ∷ []) (behind_heads (Some x.0)) ∙ ap (λ (l : List PageHead). heads ++ l) (sym rest) ∙ before)

  pub heads_end : (heads : List PageHead) (id : Option ℤ) → None ≡ unhashed_behind id t → AreHeadsBefore heads id → heads ≡ map (head_in key_of t) t.pages
  heads_end heads id is before = go (find (is_behind id) t.pages) refl is
    where
      go : (o : Option (Kept PageRow)) → find (is_behind id) t.pages ≡ o → None ≡ option_map (unhashed_row t) o → heads ≡ map (head_in key_of t) t.pages
      go None e is =
          let none = ap (map (head_in key_of t)) (none_found (is_behind id) t.pages e) in
          sym (append-nil heads) ∙ sym (ap (λ (l : List PageHead). heads ++ l) none) ∙ before
      go (Some x) e is = absurd (let none : ⊥ = cc in none)

  -- the heads so far, those of the rows that were read and have no keys yet, and those of the rows that are still to come
  abbrev pub AreReadBefore : List PageHead → List Unhashed → Option ℤ → Type 0
  AreReadBefore heads window id = AreHeadsBefore (heads ++ map (hashed key_of) window) id

  pub reads_begin : (heads : List PageHead) (window : List Unhashed) → heads ≡ [] → window ≡ [] → AreReadBefore heads window None
  reads_begin heads window none empty =
      subst (λ (l : List PageHead). AreReadBefore l window None) (sym none) (subst (λ (w : List Unhashed). AreReadBefore [] w None) (sym empty) heads_begin)

  pub reads_more : (heads more : List PageHead) (window rest : List Unhashed) (id : Option ℤ) (row : Unhashed) → IsKeyedBy id_of t.pages → Some row ≡ unhashed_behind id t
      → more ++ map (hashed key_of) rest ≡ heads ++ map (hashed key_of) window ++ hashed key_of row ∷ [] → AreReadBefore heads window id → AreReadBefore more rest (Some row.page.id)
  reads_more heads more window rest id row keyed is same before =
      subst (λ (l : List PageHead). AreHeadsBefore l (Some row.page.id)) (sym same) (heads_more (heads ++ map (hashed key_of) window) id row keyed is before)

  pub reads_end : (heads all : List PageHead) (window : List Unhashed) (id : Option ℤ) → None ≡ unhashed_behind id t → all ≡ heads ++ map (hashed key_of) window → AreReadBefore heads window id → all ≡ map (head_in key_of t) t.pages
  reads_end heads all window id is same before = same ∙ heads_end (heads ++ map (hashed key_of) window) id is before
