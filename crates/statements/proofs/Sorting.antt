-- Lists in the order of a key, and finite maps of them.
use Rattle.statements.proofs.Outside.{◌≡◌, ◌<◌, ◌<ℤ◌, ◌+◌, ℕ, ℤ, Bool, true, false, ◌&&◌, cond, List, [], ◌∷◌, ◌++◌, map, filter, length, reverse, take, get_or, refl, sym, ap, ◌∙◌, subst, Ordering, Less, Equal, Greater, int_cmp, is_eq, is_gt, true≢false, AllByRecursion, AllZip, take_more, nil_from_length, IsTotalOrder, ordering_reverse, ordering_then, upto, from_entries, entries, empty, entries-insert, len-entries, len-empty, zip_more, IsAscending, IsKeyedBy, sort_by, insert_sorted, all_weaker, all-filter, Less-from_lt}
use Rattle.std.proofs.lemmas.Grind.{reverse_onto}
use Rattle.std.specs.FinMap.Entries.{put, by_order}

module _ {A : Type 0} (p q : A → Bool) where
  -- two tests, one after the other
  pub filter_both : (xs : List A) → filter (λ x. p x && q x) xs ≡ filter q (filter p xs)
  filter_both [] = refl
  filter_both (x ∷ xs) = go (p x) (q x) refl (filter_both xs)
    where
      go : (a b : Bool) → q x ≡ b → filter (λ y. p y && q y) xs ≡ filter q (filter p xs)
          → cond (a && b) (x ∷ filter (λ y. p y && q y) xs) (filter (λ y. p y && q y) xs) ≡ filter q (cond a (x ∷ filter p xs) (filter p xs))
      go true true e more = rw e (ap (λ l. x ∷ l) more)
      go true false e more = rw e more
      go false b e more = more

module _ {A : Type 0} (cmp : A → A → Ordering) where
  first_in : (x : A) (xs : List A) → AllByRecursion (λ y. cmp x y ≡ Less) xs → insert_sorted cmp x xs ≡ x ∷ xs
  first_in x [] low = refl
  first_in x (y ∷ ys) low = let l = low.0 in rw l refl

  -- what is in order is sorted
  pub sorted_already : (xs : List A) → IsAscending (λ a b. cmp a b ≡ Less) xs → sort_by cmp xs ≡ xs
  sorted_already [] up = refl
  sorted_already (x ∷ xs) up = ap (insert_sorted cmp x) (sorted_already xs up.1) ∙ first_in x xs up.0

  all_put : (P : A → Type 0) (x : A) (ys : List A) → P x → AllByRecursion P ys → AllByRecursion P (insert_sorted cmp x ys)
  all_put P x [] h all = (h, tt)
  all_put P x (y ∷ ys) h all = elim (is_gt (cmp x y)) as (λ b. AllByRecursion P (cond b (y ∷ insert_sorted cmp x ys) (x ∷ y ∷ ys))) [ true ↦ (all.0, all_put P x ys h all.1) | false ↦ (h, all) ]

  -- what holds of all holds of all where they are sorted
  pub all_sorted : (P : A → Type 0) (xs : List A) → AllByRecursion P xs → AllByRecursion P (sort_by cmp xs)
  all_sorted P [] all = tt
  all_sorted P (x ∷ xs) all = all_put P x (sort_by cmp xs) all.0 (all_sorted P xs all.1)

  goes_last : (x : A) (ys : List A) → AllByRecursion (λ y. cmp x y ≡ Greater) ys → insert_sorted cmp x ys ≡ ys ++ x ∷ []
  goes_last x [] all = refl
  goes_last x (y ∷ ys) all = let above = all.0 in rw above (ap (λ l. y ∷ l) (goes_last x ys all.1))

  -- what is in order is turned round where the order is
  pub turned_round : (xs : List A) → IsAscending (λ a b. cmp a b ≡ Greater) xs → sort_by cmp xs ≡ reverse xs
  turned_round [] up = refl
  turned_round (x ∷ xs) up =
      ap (insert_sorted cmp x) (turned_round xs up.1) ∙ goes_last x (reverse xs) (subst (AllByRecursion (λ y. cmp x y ≡ Greater)) (turned_round xs up.1) (all_sorted (λ y. cmp x y ≡ Greater) xs up.0)) ∙ sym (reverse_onto xs x [])

  abbrev pub AtMost : A → A → Type 0
  AtMost a b = is_gt (cmp a b) ≡ false

  in_front : (x : A) (ys : List A) → AllByRecursion (AtMost x) ys → insert_sorted cmp x ys ≡ x ∷ ys
  in_front x [] low = refl
  in_front x (y ∷ ys) low = rw low.0 refl

  -- what is in order, where some may be tied, stays as it is
  pub sorted_as_is : (xs : List A) → IsAscending AtMost xs → sort_by cmp xs ≡ xs
  sorted_as_is [] up = refl
  sorted_as_is (x ∷ xs) up = ap (insert_sorted cmp x) (sorted_as_is xs up.1) ∙ in_front x xs up.0

  module _ (total : IsTotalOrder cmp) where
    turned_back : (x y : A) → is_gt (cmp x y) ≡ true → AtMost y x
    turned_back x y up = ap is_gt (total.antisymm y x) ∙ go (cmp x y) up
      where
        go : (o : Ordering) → is_gt o ≡ true → is_gt (ordering_reverse o) ≡ false
        go Less e = absurd (true≢false (sym e))
        go Equal e = refl
        go Greater e = refl

    inserted_up : (x : A) (ys : List A) → IsAscending AtMost ys → IsAscending AtMost (insert_sorted cmp x ys)
    inserted_up x [] up = (tt, tt)
    inserted_up x (y ∷ ys) up = go (is_gt (cmp x y)) refl (inserted_up x ys up.1)
      where
        go : (b : Bool) → is_gt (cmp x y) ≡ b → IsAscending AtMost (insert_sorted cmp x ys) → IsAscending AtMost (cond b (y ∷ insert_sorted cmp x ys) (x ∷ y ∷ ys))
        go true e more = (all_put (AtMost y) x ys (turned_back x y e) up.0, more)
        go false e more = ((e, all_weaker (AtMost y) (AtMost x) (λ z. upto total x y z e) ys up.0), up)

    sorted_up : (xs : List A) → IsAscending AtMost (sort_by cmp xs)
    sorted_up [] = tt
    sorted_up (x ∷ xs) = inserted_up x (sort_by cmp xs) (sorted_up xs)

    -- those that pass a test are sorted as they were among all
    module _ (q : A → Bool) where
      in_passed : (x : A) (ys : List A) → IsAscending AtMost ys → q x ≡ true → filter q (insert_sorted cmp x ys) ≡ insert_sorted cmp x (filter q ys)
      in_passed x [] up in_x = rw in_x refl
      in_passed x (y ∷ ys) up in_x = go (is_gt (cmp x y)) refl (in_passed x ys up.1 in_x)
        where
          passed : (b : Bool) → q y ≡ b → filter q (insert_sorted cmp x ys) ≡ insert_sorted cmp x (filter q ys) → is_gt (cmp x y) ≡ true
              → cond b (y ∷ filter q (insert_sorted cmp x ys)) (filter q (insert_sorted cmp x ys)) ≡ insert_sorted cmp x (cond b (y ∷ filter q ys) (filter q ys))
          passed true f more e = rw e (ap (λ l. y ∷ l) more)
          passed false f more e = more

          go : (g : Bool) → is_gt (cmp x y) ≡ g → filter q (insert_sorted cmp x ys) ≡ insert_sorted cmp x (filter q ys)
              → filter q (cond g (y ∷ insert_sorted cmp x ys) (x ∷ y ∷ ys)) ≡ insert_sorted cmp x (filter q (y ∷ ys))
          go true e more = passed (q y) refl more e
          go false e more =
              let low : AllByRecursion (AtMost x) (y ∷ ys) = (e, all_weaker (AtMost y) (AtMost x) (λ z. upto total x y z e) ys up.0) in
              rw in_x (sym (in_front x (filter q (y ∷ ys)) (all-filter (AtMost x) q (y ∷ ys) low)))

      in_failed : (x : A) (ys : List A) → q x ≡ false → filter q (insert_sorted cmp x ys) ≡ filter q ys
      in_failed x [] out = rw out refl
      in_failed x (y ∷ ys) out = go (is_gt (cmp x y)) (in_failed x ys out)
        where
          go : (g : Bool) → filter q (insert_sorted cmp x ys) ≡ filter q ys → filter q (cond g (y ∷ insert_sorted cmp x ys) (x ∷ y ∷ ys)) ≡ filter q (y ∷ ys)
          go true more = ap (λ l. cond (q y) (y ∷ l) l) more
          go false more = rw out refl

      pub filter-sort_by : (xs : List A) → filter q (sort_by cmp xs) ≡ sort_by cmp (filter q xs)
      filter-sort_by [] = refl
      filter-sort_by (x ∷ xs) = go (q x) refl (filter-sort_by xs)
        where
          go : (b : Bool) → q x ≡ b → filter q (sort_by cmp xs) ≡ sort_by cmp (filter q xs) → filter q (insert_sorted cmp x (sort_by cmp xs)) ≡ sort_by cmp (cond b (x ∷ filter q xs) (filter q xs))
          go true e more = in_passed x (sort_by cmp xs) (sorted_up xs) e ∙ ap (insert_sorted cmp x) more
          go false e more = in_failed x (sort_by cmp xs) e ∙ more

-- Where rows stand in the order of their keys, by which the ties of an order are broken, rows that it ties stand as they are.
module _ {A : Type 0} (key : A → ℤ) (cmp : A → A → Ordering) where
  abbrev pub and_key : A → A → Ordering
  and_key x y = ordering_then (cmp x y) (int_cmp (key x) (key y))

  tie_broken : (o c : Ordering) → c ≡ Less → is_gt (ordering_then o c) ≡ is_gt o
  tie_broken Less c h = refl
  tie_broken Equal c h = ap is_gt h
  tie_broken Greater c h = refl

  put_same : (x : A) (ys : List A) → AllByRecursion (λ y. int_cmp (key x) (key y) ≡ Less) ys → insert_sorted and_key x ys ≡ insert_sorted cmp x ys
  put_same x [] low = refl
  put_same x (y ∷ ys) low = λ i. cond (tie_broken (cmp x y) (int_cmp (key x) (key y)) low.0 i) (y ∷ put_same x ys low.1 i) (x ∷ y ∷ ys)

  pub sorted_same : (xs : List A) → IsKeyedBy key xs → sort_by and_key xs ≡ sort_by cmp xs
  sorted_same [] up = refl
  sorted_same (x ∷ xs) up =
      ap (insert_sorted and_key x) (sorted_same xs up.1)
      ∙ put_same x (sort_by cmp xs) (all_sorted cmp (λ y. int_cmp (key x) (key y) ≡ Less) xs (all_weaker (λ y. key x <ℤ key y) (λ y. int_cmp (key x) (key y) ≡ Less) (λ y. Less-from_lt (key x) (key y)) xs up.0))

-- one more item is read
pub read_more : {A B : Type 0} (R : A → B → Type 0) (xs : List A) (ys : List B) (i : ℕ) (x : A) (y : B) → i < length xs → x ≡ get_or xs i x → AllZip R (take i xs) ys → R x y → AllZip R (take (i + 1) xs) (ys ++ y ∷ [])
read_more R xs ys i x y within is all here =
    let longer : take (i + 1) xs ≡ take i xs ++ x ∷ [] = take_more xs i x within ∙ ap (λ z. take i xs ++ z ∷ []) (sym is) in
    subst (λ l. AllZip R l (ys ++ y ∷ [])) (sym longer) (zip_more R (take i xs) ys x y all here)

-- ---- finite maps

module _ {A K V : Type 0} (R : K → K → Ordering) (total : IsTotalOrder R) (key : A → K) (val : A → V) where
  abbrev by_key : A → A → Ordering
  by_key a b = R (key a) (key b)

  abbrev entry : A → K × V
  entry a = (key a, val a)

  put_is : (x : A) (xs : List A) → AllByRecursion (λ y. is_eq (by_key x y) ≡ false) xs → put R (key x) (val x) (map entry xs) ≡ map entry (insert_sorted by_key x xs)
  put_is x [] apart = refl
  put_is x (y ∷ ys) apart = go (by_key x y) refl (put_is x ys apart.1)
    where
      go : (o : Ordering) → by_key x y ≡ o → put R (key x) (val x) (map entry ys) ≡ map entry (insert_sorted by_key x ys)
          → by_order o ((key x, val x) ∷ map entry (y ∷ ys)) ((key y, val x) ∷ map entry ys) (entry y ∷ put R (key x) (val x) (map entry ys))
          ≡ map entry (cond (is_gt o) (y ∷ insert_sorted by_key x ys) (x ∷ y ∷ ys))
      go Less e more = refl
      go Equal e more = absurd (true≢false (sym (ap is_eq e) ∙ apart.0))
      go Greater e more = ap (λ l. entry y ∷ l) more

  apart_in : (x y : A) (xs : List A) → is_eq (by_key x y) ≡ false → AllByRecursion (λ z. is_eq (by_key x z) ≡ false) xs → AllByRecursion (λ z. is_eq (by_key x z) ≡ false) (insert_sorted by_key y xs)
  apart_in x y [] here all = (here, tt)
  apart_in x y (z ∷ zs) here all =
      elim (is_gt (by_key y z)) as (λ b. AllByRecursion (λ w. is_eq (by_key x w) ≡ false) (cond b (z ∷ insert_sorted by_key y zs) (y ∷ z ∷ zs))) [ true ↦ (all.0, apart_in x y zs here all.1) | false ↦ (here, all) ]

  apart_sorted : (x : A) (xs : List A) → AllByRecursion (λ y. is_eq (by_key x y) ≡ false) xs → AllByRecursion (λ y. is_eq (by_key x y) ≡ false) (sort_by by_key xs)
  apart_sorted x [] all = tt
  apart_sorted x (y ∷ ys) all = apart_in x y (sort_by by_key ys) all.0 (apart_sorted x ys all.1)

  -- the entries of a map of rows with different keys are the rows in the order of the keys
  pub entries_sorted_by : (xs : List A) → IsAscending (λ a b. is_eq (by_key a b) ≡ false) xs → entries (from_entries {R = R} (map entry xs)) ≡ map entry (sort_by by_key xs)
  entries_sorted_by [] apart = nil_from_length (entries (empty {X = V} {R = R})) (sym (len-entries (empty {X = V} {R = R})) ∙ len-empty R V)
  entries_sorted_by (x ∷ xs) apart =
      entries-insert total (from_entries (map entry xs)) (key x) (val x) ∙ ap (put R (key x) (val x)) (entries_sorted_by xs apart.1) ∙ put_is x (sort_by by_key xs) (apart_sorted x xs apart.0)
