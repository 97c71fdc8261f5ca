-- Rows under rising keys, taken out and put in again in whatever order a statement comes to them.
use Rattle.statements.proofs.Outside.{◌≡◌, ℤ, ◌<ℤ◌, Bool, true, false, not, cond, List, [], ◌∷◌, map, filter, fold, refl, sym, ap, ◌∙◌, arith, Ordering, Less, Equal, Greater, int_cmp, int_eq, IsPermutation, AllByRecursion, match_ordering, ints, All-from_recursion, recursion_from_All, All-permutation, IsPermutation-refl, IsPermutation-trans, IsPermutation-cons, IsAscending, IsKeyedBy, insert_by, update_where, delete_where, without_key, all-filter, all_map, all_weaker, along_permutation, ascending-filter, ascending-map, ascending_weaker, Less-from_lt, int_eq_apart, filter_swap}
use Rattle.sqlite_keyed.proofs.WriteLemmas.{removes_delete}

module _ {X : Type 0} (key : X → ℤ) where
  -- keys may be taken out in any order
  pub removes_any : (ys zs : List X) → IsPermutation ys zs → (xs : List X) → fold (without_key key) xs (map key ys) ≡ fold (without_key key) xs (map key zs)
  removes_any = along_permutation (λ ys zs. (xs : List X) → fold (without_key key) xs (map key ys) ≡ fold (without_key key) xs (map key zs))
      (λ ys xs. refl)
      (λ y ys zs h xs. h (without_key key xs (key y)))
      (λ y z ys xs. ap (λ l. fold (without_key key) l (map key ys)) (filter_swap (λ x. not (int_eq (key x) (key z))) (λ x. not (int_eq (key x) (key y))) xs))
      (λ xs ys zs p q ws. p ws ∙ q ws)

  -- two rows of different keys may be put in in either order
  swap_puts : (xs : List X) (a b : X) → int_eq (key a) (key b) ≡ false → insert_by key (insert_by key xs a) b ≡ insert_by key (insert_by key xs b) a
  swap_puts [] a b apart = go (int_cmp (key a) (key b)) (int_cmp (key b) (key a)) refl refl
    where
      go : (m n : Ordering) → int_cmp (key a) (key b) ≡ m → int_cmp (key b) (key a) ≡ n
          → match_ordering m (a ∷ b ∷ []) (b ∷ []) (b ∷ a ∷ []) ≡ match_ordering n (b ∷ a ∷ []) (a ∷ []) (a ∷ b ∷ [])
      go Less Greater e f = refl
      go Greater Less e f = refl
      go Less Less e f = absurd (grind (arith, ints))
      go Less Equal e f = absurd (grind (arith, ints))
      go Equal n e f = absurd (grind (arith, ints))
      go Greater Equal e f = absurd (grind (arith, ints))
      go Greater Greater e f = absurd (grind (arith, ints))
  swap_puts (x ∷ xs) a b apart = go (int_cmp (key x) (key a)) (int_cmp (key x) (key b)) refl refl (swap_puts xs a b apart)
    where
      ends : (m n : Ordering) → int_cmp (key a) (key b) ≡ m → int_cmp (key b) (key a) ≡ n → (later : List X)
          → match_ordering m (a ∷ b ∷ later) (b ∷ later) (b ∷ a ∷ later) ≡ match_ordering n (b ∷ a ∷ later) (a ∷ later) (a ∷ b ∷ later)
      ends Less Greater e f later = refl
      ends Greater Less e f later = refl
      ends Less Less e f later = absurd (grind (arith, ints))
      ends Less Equal e f later = absurd (grind (arith, ints))
      ends Equal n e f later = absurd (grind (arith, ints))
      ends Greater Equal e f later = absurd (grind (arith, ints))
      ends Greater Greater e f later = absurd (grind (arith, ints))

      less : (c d : X) → int_cmp (key x) (key c) ≡ Less → int_cmp (key x) (key d) ≡ Greater → int_cmp (key c) (key d) ≡ Greater
      less c d e f = grind (arith, ints)

      go : (m n : Ordering) → int_cmp (key x) (key a) ≡ m → int_cmp (key x) (key b) ≡ n → insert_by key (insert_by key xs a) b ≡ insert_by key (insert_by key xs b) a
          → insert_by key (match_ordering m (x ∷ insert_by key xs a) (a ∷ xs) (a ∷ x ∷ xs)) b ≡ insert_by key (match_ordering n (x ∷ insert_by key xs b) (b ∷ xs) (b ∷ x ∷ xs)) a
      go Less Less e f more = rw (e, f) (ap (λ l. x ∷ l) more)
      go Less Equal e f more =
          let ab : int_cmp (key a) (key b) ≡ Greater = grind (arith, ints) in
          let ba : int_cmp (key b) (key a) ≡ Less = grind (arith, ints) in rw (f, ba) refl
      go Less Greater e f more =
          let ba : int_cmp (key b) (key a) ≡ Less = grind (arith, ints) in rw (f, ba, e) refl
      go Equal Less e f more =
          let ab : int_cmp (key a) (key b) ≡ Less = grind (arith, ints) in rw (e, ab) refl
      go Equal Equal e f more = absurd (grind (arith, ints))
      go Equal Greater e f more =
          let ab : int_cmp (key a) (key b) ≡ Greater = grind (arith, ints) in
          let ba : int_cmp (key b) (key a) ≡ Less = grind (arith, ints) in rw (ab, ba, e) refl
      go Greater Less e f more =
          let ab : int_cmp (key a) (key b) ≡ Less = grind (arith, ints) in rw (ab, f, e) refl
      go Greater Equal e f more =
          let ab : int_cmp (key a) (key b) ≡ Less = grind (arith, ints) in
          let ba : int_cmp (key b) (key a) ≡ Greater = grind (arith, ints) in rw (ab, ba, f) refl
      go Greater Greater e f more = rw (e, f) (ends (int_cmp (key a) (key b)) (int_cmp (key b) (key a)) refl refl (x ∷ xs))

  abbrev AreApart : List X → Type 0
  AreApart = IsAscending (λ a b. int_eq (key a) (key b) ≡ false)

  abbrev PutsAlike : List X → List X → Type 0
  PutsAlike ys zs = IsPermutation ys zs × (AreApart ys → AreApart zs × ((xs : List X) → fold (insert_by key) xs ys ≡ fold (insert_by key) xs zs))

  apart_turned : (a b : ℤ) → int_eq a b ≡ false → int_eq b a ≡ false
  apart_turned a b h = grind (arith, ints)

  -- rows of different keys may be put in in any order
  puts_alike : (ys zs : List X) → IsPermutation ys zs → PutsAlike ys zs
  puts_alike = along_permutation PutsAlike
      (λ ys. (IsPermutation-refl ys, λ up. (up, λ xs. refl)))
      (λ y ys zs h. (
        IsPermutation-cons y ys zs h.0,
        λ up.
            let all = recursion_from_All (λ z. int_eq (key y) (key z) ≡ false) zs (All-permutation (λ z. int_eq (key y) (key z) ≡ false) ys zs h.0 (All-from_recursion (λ z. int_eq (key y) (key z) ≡ false) ys up.0)) in
            let more = h.1 up.1 in ((all, more.0), λ xs. more.1 (insert_by key xs y)),
      ))
      (λ y z ys. (
        Rattle.std.proofs.lemmas.List.Sorted.IsPermutation-middle (y ∷ []) z ys,
        λ up.
            (((apart_turned (key y) (key z) up.0.0, up.1.0), (up.0.1, up.1.1)), λ xs. ap (λ l. fold (insert_by key) l ys) (swap_puts xs y z up.0.0)),
      ))
      (λ xs ys zs p q. (IsPermutation-trans xs ys zs p.0 q.0, λ up. let one = p.1 up in let two = q.1 one.0 in (two.0, λ ws. one.1 ws ∙ two.1 ws)))

  pub puts_any : (ys zs : List X) → IsPermutation ys zs → AreApart ys → (xs : List X) → fold (insert_by key) xs ys ≡ fold (insert_by key) xs zs
  puts_any ys zs same apart = ((puts_alike ys zs same).1 apart).1

  put_first : (x : X) (xs : List X) → AllByRecursion (λ y. key x <ℤ key y) xs → insert_by key xs x ≡ x ∷ xs
  put_first x [] h = refl
  put_first x (y ∷ xs) h = let low = h.0 in let above : int_cmp (key y) (key x) ≡ Greater = grind (arith, ints) in rw above refl

  puts_past : (news : List X) (x : X) (xs : List X) → AllByRecursion (λ n. key x <ℤ key n) news → fold (insert_by key) (x ∷ xs) news ≡ x ∷ fold (insert_by key) xs news
  puts_past [] x xs above = refl
  puts_past (n ∷ news) x xs above = rw (Less-from_lt (key x) (key n) above.0) (puts_past news x (insert_by key xs n) above.1)

  module _ (p : X → Bool) (f : X → X) (keeps : (x : X) → key (f x) ≡ key x) where
    -- rows that were taken out and come back changed
    puts_back : (xs : List X) → IsKeyedBy key xs → fold (insert_by key) (delete_where p xs) (map f (filter p xs)) ≡ update_where p f xs
    puts_back [] up = refl
    puts_back (x ∷ xs) up = go (p x) (puts_back xs up.1)
      where
        above : (y : X) → key y ≡ key x → AllByRecursion (λ n. key y <ℤ key n) (map f (filter p xs))
        above y same = all_map _ f _ (all-filter _ p xs (all_weaker _ (λ n. key y <ℤ key (f n)) (λ n h. rw (same, keeps n) h) xs up.0))

        left : AllByRecursion (λ n. key (f x) <ℤ key n) (delete_where p xs)
        left = all-filter _ (λ y. not (p y)) xs (all_weaker _ (λ n. key (f x) <ℤ key n) (λ n h. rw (keeps x) h) xs up.0)

        go : (b : Bool) → fold (insert_by key) (delete_where p xs) (map f (filter p xs)) ≡ update_where p f xs
            → fold (insert_by key) (cond (not b) (x ∷ delete_where p xs) (delete_where p xs)) (map f (cond b (x ∷ filter p xs) (filter p xs))) ≡ cond b (f x) x ∷ update_where p f xs
        go true more =
            ap (λ l. fold (insert_by key) l (map f (filter p xs))) (put_first (f x) (delete_where p xs) left) ∙ puts_past _ (f x) _ (above (f x) (keeps x)) ∙ ap (λ l. f x ∷ l) more
        go false more = puts_past _ x _ (above x refl) ∙ ap (λ l. x ∷ l) more

    keys_apart : (xs : List X) → IsKeyedBy key xs → AreApart (map f (filter p xs))
    keys_apart xs up =
        ascending-map (λ a b. int_eq (key a) (key b) ≡ false) f _ (ascending_weaker _ (λ a b. int_eq (key (f a)) (key (f b)) ≡ false)
        (λ a b h. let k = keeps a in let l = keeps b in int_eq_apart (key (f a)) (key (f b)) (λ e. omega (arith, ints))) _ (ascending-filter (λ a b. key a <ℤ key b) p xs up))

    -- an update of the rows that pass, whatever order they are come to in
    pub updated : (xs ys : List X) → IsKeyedBy key xs → IsPermutation (filter p xs) ys → fold (insert_by key) (fold (without_key key) xs (map key ys)) (map f ys) ≡ update_where p f xs
    updated xs ys up same =
        ap (λ l. fold (insert_by key) l (map f ys)) (sym (removes_any _ ys same xs) ∙ removes_delete key p xs up)
        ∙ sym (puts_any _ (map f ys) (map_permuted same) (keys_apart xs up) (delete_where p xs)) ∙ puts_back xs up
      where
        map_permuted : IsPermutation (filter p xs) ys → IsPermutation (map f (filter p xs)) (map f ys)
        map_permuted = Rattle.std.proofs.lemmas.List.Sorted.IsPermutation-map f (filter p xs) ys

  pub deleted : (p : X → Bool) (xs ys : List X) → IsKeyedBy key xs → IsPermutation (filter p xs) ys → fold (without_key key) xs (map key ys) ≡ delete_where p xs
  deleted p xs ys up same = sym (removes_any _ ys same xs) ∙ removes_delete key p xs up
