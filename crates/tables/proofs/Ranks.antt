-- Rising numbers, the first rows of a list, and the entries of a map.
use Rattle.tables.proofs.Outside.{◌≡◌, ℕ, ◌+◌, ◌<◌, ◌≤◌, nat_lt, Bool, true, false, cond, T, List, [], ◌∷◌, map, filter, take, length, min, find, ◌==◌, Option, Some, None, refl, sym, ap, subst, ◌∙◌, arith, bytes_eq, AllByRecursion, tied_itself, from_entries, entries, empty, entries-insert, len-entries, len-empty, eqb-true, lt-ltb, le-ltb, ltb-true, ltb-false, take-take, length-take, IsAscending, listing_of, equal_bytes, Rises, name_cmp, names_total, names_same, both_first, both_second}
use Rattle.std.specs.Ordering.{is_lt, is_eq, eq_by_cmp}
use Rattle.std.specs.declared.cmp.Ordering.{Ordering}
use Rattle.std.specs.declared.cmp.Ordering.TheVariants.{Less, Equal, Greater}
use Rattle.std.specs.FinMap.Entries.{find as find_entry, put, is_sorted, below_all, by_order}
use Rattle.machine.proofs.PageLemmas.{holds_true}
use Rattle.tables.specs.Inner.Lists.{newest_by}
use Rattle.tables.proofs.Names.{tied}

-- the last of a list
abbrev pub last_in : {X : Type 0} → List X → Option X
last_in [] = None
last_in (x ∷ []) = Some x
last_in (x ∷ y ∷ xs) = last_in (y ∷ xs)

-- ---- numbers that rise

above_all : (low least next : ℕ) (ns : List ℕ) → Rises least ns next → low ≤ least → AllByRecursion (λ n. low < n) ns
above_all low least next [] rise h = tt
above_all low least next (n ∷ ns) rise h = (let above : low < n = omega (arith, rise.0) in above, above_all low n next ns rise.2 (omega (arith, rise.0)))

pub rising : (low next : ℕ) (ns : List ℕ) → Rises low ns next → IsAscending (λ m n. m < n) ns
rising low next [] rise = tt
rising low next (n ∷ ns) rise = (above_all n n next ns rise.2 (omega arith), rising n next ns rise.2)

-- no number comes after one that the next one doesn't pass
pub none_after : {X : Type 0} (number : X → ℕ) (low next after : ℕ) (xs : List X) → Rises low (map number xs) next → next ≤ after + 1 → filter (λ x. nat_lt after (number x)) xs ≡ []
none_after number low next after [] rise h = refl
none_after number low next after (x ∷ xs) rise h =
    let within : number x ≤ after = omega (arith, rise.1) in
    rw (le-ltb after (number x) within) (none_after number (number x) next after xs rise.2 h)

-- the number before the next one is the last, where it is there, and none comes before the first
found_last : (low next m : ℕ) (ns : List ℕ) → Rises low ns next → find (λ (n : ℕ). n + 1 == next) ns ≡ Some m → last_in ns ≡ Some m
found_last low next m [] rise e = absurd (let none : ⊥ = cc in none)
found_last low next m (n ∷ []) rise e = go (n + 1 == next) e
  where
    go : (b : Bool) → cond b (Some n) None ≡ Some m → Some n ≡ Some m
    go true e = e
    go false e = absurd (let none : ⊥ = cc in none)
found_last low next m (n ∷ k ∷ ns) rise e = go (n + 1 == next) refl (found_last n next m (k ∷ ns) rise.2) e
  where
    go : (b : Bool) → (n + 1 == next) ≡ b → (find (λ (i : ℕ). i + 1 == next) (k ∷ ns) ≡ Some m → last_in (k ∷ ns) ≡ Some m)
        → cond b (Some n) (find (λ (i : ℕ). i + 1 == next) (k ∷ ns)) ≡ Some m → last_in (k ∷ ns) ≡ Some m
    go true is later e = absurd (let same : n + 1 ≡ next = eqb-true (n + 1) next is in omega (arith, same, rise.2.0, rise.2.1))
    go false is later e = later e

pub newest_reported : (next : ℕ) (ns : List ℕ) → Rises 0 ns next → newest_by (find (λ (n : ℕ). n + 1 == next) ns) next (last_in ns) ≡ last_in ns
newest_reported next ns rise = by_found (find (λ (n : ℕ). n + 1 == next) ns) refl
  where
    none_below : (ms : List ℕ) → Rises 0 ms next → next ≡ 1 → None ≡ last_in ms
    none_below [] rise is = refl
    none_below (m ∷ ms) rise is = absurd (omega (arith, rise.0, rise.1, is))

    by_next : (b : Bool) → (next == 1) ≡ b → cond b None (last_in ns) ≡ last_in ns
    by_next true is = none_below ns rise (eqb-true next 1 is)
    by_next false is = refl

    by_found : (o : Option ℕ) → find (λ (n : ℕ). n + 1 == next) ns ≡ o → newest_by o next (last_in ns) ≡ last_in ns
    by_found (Some m) is = sym (found_last 0 next m ns rise is)
    by_found None is = by_next (next == 1) refl

-- ---- the first rows

more_of : (n m : ℕ) → m ≡ min 51 n → nat_lt 50 m ≡ nat_lt 50 n
more_of n m e = go (nat_lt 50 n) refl
  where
    go : (b : Bool) → nat_lt 50 n ≡ b → nat_lt 50 m ≡ nat_lt 50 n
    go true f = lt-ltb 50 m (let long : 50 < n = ltb-true 50 n f in omega (arith, e, long)) ∙ sym f
    go false f = le-ltb 50 m (let short : n ≤ 50 = ltb-false 50 n f in omega (arith, e, short)) ∙ sym f

-- one row more than a listing has tells as much as all
pub first_rows_report : {X : Type 0} (xs : List X) → listing_of (take 51 xs) ≡ listing_of xs
first_rows_report xs = λ i. record { items = take-take 50 51 xs (omega arith) i; more = more_of (length xs) (length (take 51 xs)) (length-take 51 xs) i }

-- rows that are read and shown, of those that pass a test
pub shown_rows : {A B C D : Type 0} (g : A → B) (f : B → C) (h : A → D) (k : D → C) (p : B → Bool) (q : D → Bool) → (xs : List A)
    → AllByRecursion (λ a. (f (g a) ≡ k (h a)) × (p (g a) ≡ q (h a))) xs → map f (filter p (map g xs)) ≡ map k (filter q (map h xs))
shown_rows g f h k p q [] all = refl
shown_rows g f h k p q (x ∷ xs) all = go (p (g x)) (q (h x)) all.0.1 (shown_rows g f h k p q xs all.1)
  where
    go : (a b : Bool) → a ≡ b → map f (filter p (map g xs)) ≡ map k (filter q (map h xs))
        → map f (cond a (g x ∷ filter p (map g xs)) (filter p (map g xs))) ≡ map k (cond b (h x ∷ filter q (map h xs)) (filter q (map h xs)))
    go true true e more = λ i. all.0.0 i ∷ more i
    go false false e more = more
    go true false e more = absurd (let none : ⊥ = cc in none)
    go false true e more = absurd (let none : ⊥ = cc in none)

pub same_names : {X Y : Type 0} (f : X → Y) (n : Y → ℕ) (m : X → ℕ) → ((x : X) → n (f x) ≡ m x) → (xs : List X) → map n (map f xs) ≡ map m xs
same_names f n m same [] = refl
same_names f n m same (x ∷ xs) = λ i. same x i ∷ same_names f n m same xs i

-- ---- entries

no_length : {X : Type 0} (es : List X) → 0 ≡ length es → es ≡ []
no_length [] e = refl
no_length (x ∷ es) e = absurd (omega arith)

pub no_entries : {X : Type 0} → entries (empty {X = X} {R = name_cmp}) ≡ []
no_entries {X} = no_length _ (sym (len-empty name_cmp X) ∙ len-entries (empty {X = X} {R = name_cmp}))

-- a name that comes later isn't tied with an earlier one
not_earlier : (earlier later : List ℕ) → T (is_lt (name_cmp earlier later)) → eq_by_cmp name_cmp later earlier ≡ false
not_earlier earlier later below = go (bytes_eq earlier later) refl
  where
    go : (b : Bool) → bytes_eq earlier later ≡ b → eq_by_cmp name_cmp later earlier ≡ false
    go false e = tied later earlier ∙ e
    go true e =
        let same : earlier ≡ later = equal_bytes earlier later e in
        absurd (subst (λ (o : Ordering). T (is_lt o)) (tied_itself names_total later) (subst (λ (n : List ℕ). T (is_lt (name_cmp n later))) same below))

module _ {X : Type 0} where
  abbrev pub AreFound : List (List ℕ × X) → List (List ℕ × X) → Type 0
  AreFound es fs = AllByRecursion (λ (f : List ℕ × X). find_entry name_cmp f.0 es ≡ Some f.1) fs

  found_later : (e : List ℕ × X) (es fs : List (List ℕ × X)) → T (below_all name_cmp e.0 fs) → AreFound es fs → AreFound (e ∷ es) fs
  found_later e es [] below found = tt
  found_later e es (f ∷ fs) below found =
      (ap (λ b. cond b (Some e.1) (find_entry name_cmp f.0 es)) (not_earlier e.0 f.0 (both_first _ _ below)) ∙ found.0, found_later e es fs (both_second _ _ below) found.1)

  -- each entry is found by its name
  pub all_found : (es : List (List ℕ × X)) → T (is_sorted name_cmp es) → AreFound es es
  all_found [] sorted = tt
  all_found (e ∷ es) sorted =
      (ap (λ (o : Ordering). cond (is_eq o) (Some e.1) (find_entry name_cmp e.0 es)) (tied_itself names_total e.0), found_later e es es (both_first _ _ sorted) (all_found es (both_second _ _ sorted)))

  -- the names of rows made of entries rise as theirs do
  pub rows_above : {Y : Type 0} (row : List ℕ × X → Y) (name : Y → List ℕ) → ((e : List ℕ × X) → name (row e) ≡ e.0) → (n : List ℕ) (es : List (List ℕ × X)) → T (below_all name_cmp n es)
      → AllByRecursion (λ (later : Y). is_lt (name_cmp n (name later)) ≡ true) (map row es)
  rows_above row name same n [] below = tt
  rows_above row name same n (e ∷ es) below = (ap (λ m. is_lt (name_cmp n m)) (same e) ∙ holds_true _ (both_first _ _ below), rows_above row name same n es (both_second _ _ below))

-- values that are shown in another way, by their names
module _ {X Y : Type 0} (show : List ℕ → X → Y) where
  abbrev shown : List ℕ × X → List ℕ × Y
  shown e = (e.0, show e.0 e.1)

  put_shown : (k : List ℕ) (v : X) (es : List (List ℕ × X)) → map shown (put name_cmp k v es) ≡ put name_cmp k (show k v) (map shown es)
  put_shown k v [] = refl
  put_shown k v (e ∷ es) = go (name_cmp k e.0) refl (put_shown k v es)
    where
      go : (o : Ordering) → name_cmp k e.0 ≡ o → map shown (put name_cmp k v es) ≡ put name_cmp k (show k v) (map shown es)
          → map shown (by_order o ((k, v) ∷ e ∷ es) ((e.0, v) ∷ es) (e ∷ put name_cmp k v es)) ≡ by_order o ((k, show k v) ∷ shown e ∷ map shown es) ((e.0, show k v) ∷ map shown es) (shown e ∷ put name_cmp k (show k v) (map shown es))
      go Less f more = refl
      go Equal f more = ap (λ (n : List ℕ). (e.0, show n v) ∷ map shown es) (sym (names_same k e.0 f))
      go Greater f more = ap (λ rest. shown e ∷ rest) more

  pub entries_shown : {A : Type 0} (name : A → List ℕ) (value : A → X) (xs : List A)
      → entries (from_entries {R = name_cmp} (map (λ x. (name x, show (name x) (value x))) xs)) ≡ map shown (entries (from_entries {R = name_cmp} (map (λ x. (name x, value x)) xs)))
  entries_shown name value [] = no_entries ∙ sym (ap (map shown) no_entries)
  entries_shown name value (x ∷ xs) =
      entries-insert names_total (from_entries {R = name_cmp} (map (λ y. (name y, show (name y) (value y))) xs)) (name x) (show (name x) (value x))
      ∙ ap (put name_cmp (name x) (show (name x) (value x))) (entries_shown name value xs)
      ∙ sym (put_shown (name x) (value x) (entries (from_entries {R = name_cmp} (map (λ y. (name y, value y)) xs))))
      ∙ sym (ap (map shown) (entries-insert names_total (from_entries {R = name_cmp} (map (λ y. (name y, value y)) xs)) (name x) (value x)))
