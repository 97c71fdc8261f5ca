-- Lists in the order of a key: what is put in and taken out of them, and what is sorted once more.
use Rattle.tables.proofs.Outside.{◌≡◌, Bool, true, false, cond, List, [], ◌∷◌, ◌++◌, map, filter, find, length, slice_get, append-nil, refl, sym, ap, ◌∙◌, Ordering, Less, Equal, Greater, is_eq, is_gt, true≢false, AllByRecursion, IsTotalOrder, ordering_reverse, upto, length_permutation, IsAscending, sort_by, insert_sorted, all_weaker, slice_get-filter, IsPermutation-sort_by, sort_by-map, AtMost, sorted_as_is, filter-sort_by}
use Rattle.tables.proofs.TextLists.{all_passing}

pub greater_is : (o : Ordering) → is_gt o ≡ true → o ≡ Greater
greater_is Less e = absurd (true≢false (sym e))
greater_is Equal e = absurd (true≢false (sym e))
greater_is Greater e = refl

module _ {A : Type 0} (one two : A → A → Ordering) (turns : (x z : A) → is_gt (one x z) ≡ true → (l : List A) → insert_sorted two z (insert_sorted two x l) ≡ insert_sorted two x (insert_sorted two z l)) where
  put_among : (x : A) (zs ws : List A) → sort_by two (insert_sorted one x zs ++ ws) ≡ insert_sorted two x (sort_by two (zs ++ ws))
  put_among x [] ws = refl
  put_among x (z ∷ zs) ws = go (is_gt (one x z)) refl (put_among x zs ws)
    where
      go : (b : Bool) → is_gt (one x z) ≡ b → sort_by two (insert_sorted one x zs ++ ws) ≡ insert_sorted two x (sort_by two (zs ++ ws))
          → sort_by two (cond b (z ∷ insert_sorted one x zs) (x ∷ z ∷ zs) ++ ws) ≡ insert_sorted two x (insert_sorted two z (sort_by two (zs ++ ws)))
      go true e more = ap (insert_sorted two z) more ∙ turns x z e (sort_by two (zs ++ ws))
      go false e more = refl

  -- what was sorted before is sorted as it would have been
  pub sorted_among : (vs ws : List A) → sort_by two (sort_by one vs ++ ws) ≡ sort_by two (vs ++ ws)
  sorted_among [] ws = refl
  sorted_among (v ∷ vs) ws = put_among v (sort_by one vs) ws ∙ ap (insert_sorted two v) (sorted_among vs ws)

  pub sorted_anew : (vs : List A) → sort_by two (sort_by one vs) ≡ sort_by two vs
  sorted_anew vs = ap (sort_by two) (sym (append-nil (sort_by one vs))) ∙ sorted_among vs [] ∙ ap (sort_by two) (append-nil vs)

module _ {A : Type 0} (cmp : A → A → Ordering) (total : IsTotalOrder cmp) where
  -- two that aren't tied are put in either after the other
  pub put_in_turn : (x z : A) → cmp x z ≡ Greater → (l : List A) → insert_sorted cmp z (insert_sorted cmp x l) ≡ insert_sorted cmp x (insert_sorted cmp z l)
  put_in_turn x z up [] = let low : cmp z x ≡ Less = total.antisymm z x ∙ ap ordering_reverse up in rw (up, low) refl
  put_in_turn x z up (e ∷ es) = go (is_gt (cmp z e)) (is_gt (cmp x e)) refl refl (put_in_turn x z up es)
    where
      low : cmp z x ≡ Less
      low = total.antisymm z x ∙ ap ordering_reverse up

      go : (a b : Bool) → is_gt (cmp z e) ≡ a → is_gt (cmp x e) ≡ b → insert_sorted cmp z (insert_sorted cmp x es) ≡ insert_sorted cmp x (insert_sorted cmp z es)
          → insert_sorted cmp z (cond b (e ∷ insert_sorted cmp x es) (x ∷ e ∷ es)) ≡ insert_sorted cmp x (cond a (e ∷ insert_sorted cmp z es) (z ∷ e ∷ es))
      go true true f g more = rw (f, g) (ap (λ l. e ∷ l) more)
      go true false f g more = absurd (true≢false (sym f ∙ upto total z x e (ap is_gt low) g))
      go false true f g more = rw (f, up, g) refl
      go false false f g more = rw (low, up, g) refl

  pub sorted_with : (vs ws : List A) → sort_by cmp (sort_by cmp vs ++ ws) ≡ sort_by cmp (vs ++ ws)
  sorted_with = sorted_among cmp cmp (λ x z e l. put_in_turn x z (greater_is (cmp x z) e) l)

  pub length_sorted : (xs : List A) → length (sort_by cmp xs) ≡ length xs
  length_sorted xs = sym (length_permutation (sort_by cmp xs) xs (IsPermutation-sort_by cmp total xs))

  -- as many pass a test, sorted or not
  pub count_sorted : (q : A → Bool) (xs : List A) → length (filter q (sort_by cmp xs)) ≡ length (filter q xs)
  count_sorted q xs = ap length (filter-sort_by cmp total q xs) ∙ length_sorted (filter q xs)

  -- where all that pass a test are tied, the first of them stays the first
  pub found_sorted : (q : A → Bool) → ((x y : A) → q x ≡ true → q y ≡ true → cmp x y ≡ Equal) → (xs : List A) → find q (sort_by cmp xs) ≡ find q xs
  found_sorted q tied xs =
      sym (slice_get-filter q (sort_by cmp xs))
      ∙ ap (λ l. slice_get l 0) (filter-sort_by cmp total q xs ∙ sorted_as_is cmp (filter q xs) (tied_up (filter q xs) (all_passing q xs)))
      ∙ slice_get-filter q xs
    where
      tied_up : (ys : List A) → AllByRecursion (λ y. q y ≡ true) ys → IsAscending (AtMost cmp) ys
      tied_up [] all = tt
      tied_up (y ∷ ys) all = (all_weaker (λ z. q z ≡ true) (AtMost cmp y) (λ z e. ap is_gt (tied y z all.0 e)) ys all.1, tied_up ys all.1)

module _ {A : Type 0} (cmp : A → A → Ordering) where
  -- what keeps its place in the order is changed in its place
  pub map-sorted : (f : A → A) → ((x y : A) → cmp (f x) (f y) ≡ cmp x y) → (xs : List A) → sort_by cmp (map f xs) ≡ map f (sort_by cmp xs)
  map-sorted f same xs = sort_by-map cmp f xs ∙ (λ i. map f (sort_by (λ x y. same x y i) xs))

  all_taken : (P : A → Type 0) (x : A) (ys : List A) → AllByRecursion P (insert_sorted cmp x ys) → P x × AllByRecursion P ys
  all_taken P x [] all = (all.0, tt)
  all_taken P x (y ∷ ys) all = go (is_gt (cmp x y)) all (all_taken P x ys)
    where
      go : (b : Bool) → AllByRecursion P (cond b (y ∷ insert_sorted cmp x ys) (x ∷ y ∷ ys)) → (AllByRecursion P (insert_sorted cmp x ys) → P x × AllByRecursion P ys) → P x × AllByRecursion P (y ∷ ys)
      go true every more = let rest = more every.1 in (rest.0, (every.0, rest.1))
      go false every more = every

  pub all_unsorted : (P : A → Type 0) (xs : List A) → AllByRecursion P (sort_by cmp xs) → AllByRecursion P xs
  all_unsorted P [] all = tt
  all_unsorted P (x ∷ xs) all = let taken = all_taken P x (sort_by cmp xs) all in (taken.0, all_unsorted P xs taken.1)

  abbrev Untied : A → A → Type 0
  Untied a b = is_eq (cmp a b) ≡ false

  abbrev Below : A → A → Type 0
  Below a b = cmp a b ≡ Less

  taken_apart : (x : A) (ys : List A) → IsAscending Below (insert_sorted cmp x ys) → AllByRecursion (Untied x) ys × IsAscending Below ys
  taken_apart x [] up = (tt, tt)
  taken_apart x (y ∷ ys) up = go (is_gt (cmp x y)) refl up (taken_apart x ys)
    where
      go : (b : Bool) → is_gt (cmp x y) ≡ b → IsAscending Below (cond b (y ∷ insert_sorted cmp x ys) (x ∷ y ∷ ys)) → (IsAscending Below (insert_sorted cmp x ys) → AllByRecursion (Untied x) ys × IsAscending Below ys)
          → AllByRecursion (Untied x) (y ∷ ys) × IsAscending Below (y ∷ ys)
      go true e rise more = let rest = more rise.1 in ((ap is_eq (greater_is (cmp x y) e), rest.0), ((all_taken (Below y) x ys rise.0).1, rest.1))
      go false e rise more = (all_weaker (Below x) (Untied x) (λ z h. ap is_eq h) (y ∷ ys) rise.0, rise.1)

  -- where they rise once they are sorted, no two are tied
  pub rise_apart : (xs : List A) → IsAscending Below (sort_by cmp xs) → IsAscending Untied xs
  rise_apart [] up = tt
  rise_apart (x ∷ xs) up = let taken = taken_apart x (sort_by cmp xs) up in (all_unsorted (Untied x) xs taken.0, rise_apart xs taken.1)
