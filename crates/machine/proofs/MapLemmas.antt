-- Entries that rise by their names: where a scan stops is where the name stands, or where it would go.
use Rattle.machine.proofs.Outside.{◌≡◌, ◌≢◌, ℕ, zero, suc, ◌+◌, ◌<◌, ◌≤◌, List, [], ◌∷◌, ◌++◌, T, IsTrue, Bool, true, false, not, ◌&&◌, map, length, take, drop, get_or, set, cond, is_some, Option, Some, None, refl, sym, ap, subst, ◌∙◌, arith, ⊤, eq_by_cmp, is_eq, is_lt, IsTotalOrder, tied_itself, eq_by_cmp_equiv, Ordering, Less, Equal, Greater, length-put, is_sorted-put, is_sorted-where_key, find-where_key, where_key, below_all, drop_more, take-append-drop, set_split, map-set, length-map, get_or_default, take_all, take_more, length-insert, insert_end}
use Rattle.std.specs.List.{insert, remove as list_remove}
use Rattle.std.specs.Cmp.Lexicographic.{nat_list_cmp_total}
use Rattle.std.specs.FinMap.{FinMap, entries_sorted, IsAntisymmetric, nat_cmp-IsAntisymmetric, slice_cmp-IsAntisymmetric, find, put, is_sorted, entries, from_sorted, empty, get, insert as map_insert, entries-from_sorted, entries-insert, get-entries, same_entries_map, empty_of_len, len-entries, remove, get-insert, get-remove, same_map}
use Rattle.machine.specs.Order.{name_cmp}
use Rattle.machine.specs.Inner.Places.{IsAt, IsGapFor}

pub names_total : IsTotalOrder name_cmp
names_total = nat_list_cmp_total

pub names_same : IsAntisymmetric name_cmp
names_same = slice_cmp-IsAntisymmetric nat_cmp-IsAntisymmetric

pub holds : (b : Bool) → IsTrue b → T b
holds b e = subst T (sym e) tt

pub is_true : (b : Bool) → T b → IsTrue b
is_true true h = refl
is_true false h = absurd h

-- each entry's name is below the given one
abbrev pub AreBelow : {X : Type 0} → List ℕ → List (List ℕ × X) → Type 0
AreBelow name [] = ⊤
AreBelow name (e ∷ es) = (name_cmp name e.0 ≡ Greater) × AreBelow name es

module _ {X : Type 0} (name : List ℕ) where
  pub below_push : (es : List (List ℕ × X)) (e : List ℕ × X) → AreBelow name es → name_cmp name e.0 ≡ Greater → AreBelow name (es ++ e ∷ [])
  below_push [] e below is = (is, tt)
  below_push (f ∷ es) e below is = (below.0, below_push es e below.1 is)

  put_after : (v : X) (front back : List (List ℕ × X)) → AreBelow name front → put name_cmp name v (front ++ back) ≡ front ++ put name_cmp name v back
  put_after v [] back below = refl
  put_after v (e ∷ front) back below = rw (below.0, put_after v front back below.1) refl

  find_after : (front back : List (List ℕ × X)) → AreBelow name front → find name_cmp name (front ++ back) ≡ find name_cmp name back
  find_after [] back below = refl
  find_after (e ∷ front) back below = rw (below.0, find_after front back below.1) refl

  put_here : (v : X) (e : List ℕ × X) (es : List (List ℕ × X)) → name_cmp name e.0 ≡ Equal → put name_cmp name v (e ∷ es) ≡ (name, v) ∷ es
  put_here v e es is = rw is (ap (λ k. (k, v) ∷ es) (sym (names_same name e.0 is)))

  find_here : (e : List ℕ × X) (es : List (List ℕ × X)) → name_cmp name e.0 ≡ Equal → find name_cmp name (e ∷ es) ≡ Some e.1
  find_here e es is = rw is refl

  put_before : (v : X) (e : List ℕ × X) (es : List (List ℕ × X)) → name_cmp name e.0 ≡ Less → put name_cmp name v (e ∷ es) ≡ (name, v) ∷ e ∷ es
  put_before v e es is = rw is refl

  split_at : (es : List (List ℕ × X)) (i : ℕ) (d : List ℕ × X) → i < length es → es ≡ take i es ++ get_or es i d ∷ drop (i + 1) es
  split_at es i d within = sym (take-append-drop i es) ∙ ap (λ rest. take i es ++ rest) (drop_more es i d within)

  none_from_length : (n : ℕ) (o : Option X) → n + 1 ≡ cond (is_some o) n (n + 1) → o ≡ None
  none_from_length n None e = refl
  none_from_length n (Some v) e = absurd (omega arith)

  pub is_at : (es : List (List ℕ × X)) (i : ℕ) (d : List ℕ × X) → i < length es → AreBelow name (take i es) → name_cmp name (get_or es i d).0 ≡ Equal → IsAt name es i
  is_at es i d within below is =
      let one_more : i + 1 ≡ suc i = omega arith in
      record {
        within = within;
        named = λ c. ap (λ (e : List ℕ × X). e.0) (get_or_default es i c d within) ∙ sym (names_same name _ is);
        found = λ c. ap (find name_cmp name) (split_at es i c within) ∙ find_after _ _ below ∙ find_here (get_or es i c) _ (rw (get_or_default es i c d within) is);
        replaced = λ v. ap (put name_cmp name v) (split_at es i d within) ∙ put_after v _ _ below ∙ ap (λ rest. take i es ++ rest) (put_here v _ _ is) ∙ ap (λ n. take i es ++ (name, v) ∷ drop n es) one_more ∙ sym (set_split es i (name, v) within);
      }

  absent_below : (es : List (List ℕ × X)) → AreBelow name es → find name_cmp name es ≡ None
  absent_below [] below = refl
  absent_below (e ∷ es) below = rw below.0 (absent_below es below.1)

  put_last : (v : X) (es : List (List ℕ × X)) → AreBelow name es → put name_cmp name v es ≡ es ++ (name, v) ∷ []
  put_last v [] below = refl
  put_last v (e ∷ es) below = rw (below.0, put_last v es below.1) refl

  pub is_gap : (es : List (List ℕ × X)) (i : ℕ) (d : List ℕ × X) → i < length es → IsTrue (is_sorted name_cmp es) → AreBelow name (take i es) → name_cmp name (get_or es i d).0 ≡ Less → IsGapFor name es i
  is_gap es i d within sorted below is =
      let inserted : (v : X) → put name_cmp name v es ≡ insert es i (name, v) = λ v. ap (put name_cmp name v) (split_at es i d within) ∙ put_after v _ _ below ∙ ap (λ rest. take i es ++ rest) (put_before v _ _ is) ∙ ap (λ rest. take i es ++ (name, v) ∷ rest) (sym (drop_more es i d within)) in
      record {
        within = omega arith;
        absent = none_from_length (length es) _ (sym (length-insert es i (name, d.1) (omega arith)) ∙ sym (ap length (inserted d.1)) ∙ length-put name_cmp names_total name d.1 es (holds _ sorted));
        inserted = inserted;
      }

  pub is_end : (es : List (List ℕ × X)) (n : ℕ) → n ≡ length es → AreBelow name (take n es) → IsGapFor name es n
  is_end es n e below =
      let all : AreBelow name es = subst (AreBelow name) (take_all n es (omega arith)) below in
      record {
        within = omega arith;
        absent = absent_below es all;
        inserted = λ v. put_last v es all ∙ sym (insert_end es (name, v)) ∙ ap (λ k. insert es k (name, v)) (sym e);
      }

same_from_tied : (o : Ordering) → T (is_eq o) → o ≡ Equal
same_from_tied Less h = absurd h
same_from_tied Equal h = refl
same_from_tied Greater h = absurd h

pub not_tied : (o k : List ℕ) → o ≢ k → eq_by_cmp name_cmp o k ≡ false
not_tied o k apart = elim (eq_by_cmp name_cmp o k) as (λ b. eq_by_cmp name_cmp o k ≡ b → b ≡ false) [
  | true ↦ λ e. absurd (apart (names_same o k (same_from_tied _ (subst T (sym e) tt))))
  | false ↦ λ e. refl
] refl

pub tied_names : (o k : List ℕ) → eq_by_cmp name_cmp o k ≡ true → o ≡ k
tied_names o k tied = names_same o k (same_from_tied _ (subst T (sym tied) tt))

-- the value that was put at a name is there, and all others are as before
pub get_own : {X : Type 0} (m : FinMap name_cmp X) (name : List ℕ) (v : X) → get (map_insert m name v) name ≡ Some v
get_own m name v = get-insert names_total m name v name ∙ ap (λ (o : Ordering). cond (is_eq o) (Some v) (get m name)) (tied_itself names_total name)

pub get_other : {X : Type 0} (m : FinMap name_cmp X) (name : List ℕ) (v : X) (o : List ℕ) → o ≢ name → get (map_insert m name v) o ≡ get m o
get_other m name v o apart = get-insert names_total m name v o ∙ ap (λ b. cond b (Some v) (get m o)) (not_tied o name apart)

-- nothing is there once it is taken away, and all others are as before
pub removed_own : {X : Type 0} (m : FinMap name_cmp X) (name : List ℕ) → get (remove m name) name ≡ None
removed_own m name = get-remove names_total m name name ∙ ap (λ (o : Ordering). cond (is_eq o) None (get m name)) (tied_itself names_total name)

pub removed_other : {X : Type 0} (m : FinMap name_cmp X) (name o : List ℕ) → o ≢ name → get (remove m name) o ≡ get m o
removed_other m name o apart = get-remove names_total m name o ∙ ap (λ b. cond b None (get m o)) (not_tied o name apart)

pub both_first : (a b : Bool) → T (a && b) → T a
both_first true b h = tt
both_first false b h = absurd h

pub both_second : (a b : Bool) → T (a && b) → T b
both_second true b h = h
both_second false b h = absurd h

less_from : (o : Ordering) → T (is_lt o) → o ≡ Less
less_from Less h = refl
less_from Equal h = absurd h
less_from Greater h = absurd h

-- a name that is below another is not that one
pub below_apart : (a b : List ℕ) → T (is_lt (name_cmp a b)) → b ≢ a
below_apart a b below same = subst (λ (o : Ordering). T (is_lt o)) (tied_itself names_total a) (subst (λ k. T (is_lt (name_cmp a k))) same below)

-- what stays when a name is taken away
abbrev is_other : List ℕ → List ℕ → Bool
is_other name x = not (eq_by_cmp name_cmp name x)

module _ {X : Type 0} (name : List ℕ) where
  others_stay : (es : List (List ℕ × X)) → T (below_all name_cmp name es) → where_key name_cmp (is_other name) es ≡ es
  others_stay [] below = refl
  others_stay (e ∷ es) below = rw (less_from (name_cmp name e.0) (both_first (is_lt (name_cmp name e.0)) (below_all name_cmp name es) below)) (ap (λ rest. e ∷ rest) (others_stay es (both_second _ _ below)))

  below_each : (k : List ℕ) (es : List (List ℕ × X)) (i : ℕ) (d : List ℕ × X) → i < length es → T (below_all name_cmp k es) → T (is_lt (name_cmp k (get_or es i d).0))
  below_each k [] i d within below = absurd (omega arith)
  below_each k (e ∷ es) zero d within below = both_first _ _ below
  below_each k (e ∷ es) (suc i) d within below = below_each k es i d (omega arith) (both_second _ _ below)

  -- to take the name away is to take away the entry at its place
  one_goes : (es : List (List ℕ × X)) (i : ℕ) (d : List ℕ × X) → i < length es → T (is_sorted name_cmp es) → (get_or es i d).0 ≡ name → list_remove es i ≡ where_key name_cmp (is_other name) es
  one_goes [] i d within sorted is = absurd (omega arith)
  one_goes (e ∷ es) zero d within sorted is =
      rw (ap (name_cmp name) is ∙ tied_itself names_total name) (sym (others_stay es (subst (λ k. T (below_all name_cmp k es)) is (both_first _ _ sorted))))
  one_goes (e ∷ es) (suc i) d within sorted is =
      rw (not_tied name e.0 (below_apart e.0 name (subst (λ k. T (is_lt (name_cmp e.0 k))) is (below_each e.0 es i d (omega arith) (both_first _ _ sorted)))))
      (ap (λ rest. e ∷ rest) (one_goes es i d (omega arith) (both_second _ _ sorted) is))

turned : {Y : Type 0} (b : Bool) (x y : Y) → cond (not b) x y ≡ cond b y x
turned true x y = refl
turned false x y = refl

-- a map whose entries are those of other names is the one without the name
without_is : {X : Type 0} (m n : FinMap name_cmp X) (name : List ℕ) → entries n ≡ where_key name_cmp (is_other name) (entries m) → n ≡ remove m name
without_is m n name is = same_map names_total names_same n (remove m name) (λ q.
    get-entries n q ∙ ap (find name_cmp q) is ∙ find-where_key name_cmp (is_other name) q (λ x e. ap (is_other name) (sym (names_same q x e))) (entries m)
    ∙ turned (eq_by_cmp name_cmp name q) _ _ ∙ ap (λ b. cond b None (find name_cmp q (entries m))) ((eq_by_cmp_equiv names_total).symm name q)
    ∙ ap (λ (o : Option _). cond (eq_by_cmp name_cmp q name) None o) (sym (get-entries m q)) ∙ sym (get-remove names_total m name q))

-- rows of another type, each of which is an entry
module _ {E X : Type 0} (entry : E → List ℕ × X) where
  pub read_entry : (rows : List E) (i : ℕ) (row : E) → i < length rows → row ≡ get_or rows i row → (d : List ℕ × X) → get_or (map entry rows) i d ≡ entry row
  read_entry [] i row within is d = absurd (omega arith)
  read_entry (r ∷ rows) zero row within is d = ap entry (sym is)
  read_entry (r ∷ rows) (suc i) row within is d = read_entry rows i row (omega arith) is d

  -- the entries of the map that the rows make are the rows
  pub entries_of_rows : (rows : List E) → IsTrue (is_sorted name_cmp (map entry rows)) → entries (from_sorted {R = name_cmp} (map entry rows)) ≡ map entry rows
  entries_of_rows rows sorted = entries-from_sorted name_cmp (map entry rows) (holds _ sorted)

  -- rows that are the entries with a value put in keep the order, and make the map with that value
  pub rows_put : (old new : List E) (name : List ℕ) (v : X) → IsTrue (is_sorted name_cmp (map entry old)) → map entry new ≡ put name_cmp name v (map entry old)
      → record { sorted : IsTrue (is_sorted name_cmp (map entry new)); inserted : from_sorted {R = name_cmp} (map entry new) ≡ map_insert (from_sorted {R = name_cmp} (map entry old)) name v }
  rows_put old new name v sorted made =
      let kept : IsTrue (is_sorted name_cmp (map entry new)) = is_true _ (rw made (is_sorted-put name_cmp names_total name v _ (holds _ sorted))) in
      record {
        sorted = kept;
        inserted = same_entries_map _ _ (entries_of_rows new kept ∙ made ∙ ap (put name_cmp name v) (sym (entries_of_rows old sorted)) ∙ sym (entries-insert names_total _ name v));
      }

  -- a row in place of the one of its name
  pub rows_changed : (rows : List E) (i : ℕ) (row : E) (name : List ℕ) → IsAt name (map entry rows) i → (entry row).0 ≡ name → map entry (set rows i row) ≡ put name_cmp name (entry row).1 (map entry rows)
  rows_changed rows i row name at same = map-set entry rows i row ∙ ap (λ k. set (map entry rows) i (k, (entry row).1)) same ∙ sym (at.replaced (entry row).1)

  entries_inserted : (rows : List E) (i : ℕ) (row : E) → map entry (insert rows i row) ≡ insert (map entry rows) i (entry row)
  entries_inserted rows zero row = refl
  entries_inserted [] (suc i) row = refl
  entries_inserted (r ∷ rows) (suc i) row = ap (λ es. entry r ∷ es) (entries_inserted rows i row)

  entries_removed : (rows : List E) (i : ℕ) → map entry (list_remove rows i) ≡ list_remove (map entry rows) i
  entries_removed [] zero = refl
  entries_removed (r ∷ rows) zero = refl
  entries_removed [] (suc i) = refl
  entries_removed (r ∷ rows) (suc i) = ap (λ es. entry r ∷ es) (entries_removed rows i)

  -- a row put into the gap for its name
  pub rows_inserted : (rows : List E) (i : ℕ) (row : E) (name : List ℕ) → IsGapFor name (map entry rows) i → (entry row).0 ≡ name → map entry (insert rows i row) ≡ put name_cmp name (entry row).1 (map entry rows)
  rows_inserted rows i row name at same = entries_inserted rows i row ∙ ap (λ k. insert (map entry rows) i (k, (entry row).1)) same ∙ sym (at.inserted (entry row).1)

  module _ (m : FinMap name_cmp X) (rows : List E) (seen : from_sorted (map entry rows) ≡ m) (sorted : IsTrue (is_sorted name_cmp (map entry rows))) where
    pub entries_seen : entries m ≡ map entry rows
    entries_seen = ap entries (sym seen) ∙ entries_of_rows rows sorted

    -- a scan has come to the row at place i, and all names before it are below
    module _ (name : List ℕ) (i : ℕ) (below : AreBelow name (take i (map entry rows))) where
      module _ (row : E) (within : i < length rows) (is : row ≡ get_or rows i row) where
        here : name_cmp name (get_or (map entry rows) i (entry row)).0 ≡ name_cmp name (entry row).0
        here = ap (λ (e : List ℕ × X). name_cmp name e.0) (read_entry rows i row within is (entry row))

        inside : i < length (map entry rows)
        inside = omega (arith, length-map rows entry)

        pub found_at : name_cmp name (entry row).0 ≡ Equal → IsAt name (entries m) i
        found_at same = rw entries_seen (is_at name _ i (entry row) inside below (here ∙ same))

        pub gap_at : name_cmp name (entry row).0 ≡ Less → IsGapFor name (entries m) i
        gap_at less = rw entries_seen (is_gap name _ i (entry row) inside sorted below (here ∙ less))

        pub below_more : name_cmp name (entry row).0 ≡ Greater → AreBelow name (take (i + 1) (map entry rows))
        below_more greater = rw (take_more (map entry rows) i (entry row) inside) (below_push name _ _ below (here ∙ greater))

      pub gap_at_end : (n : ℕ) → i ≡ n → n ≡ length rows → IsGapFor name (entries m) n
      gap_at_end n e all = rw entries_seen (is_end name _ n (omega (arith, length-map rows entry)) (subst (λ k. AreBelow name (take k (map entry rows))) e below))

    pub index_within : (name : List ℕ) (i : ℕ) → IsAt name (entries m) i → i < length rows
    index_within name i at = omega (arith, at.within, ap length entries_seen, length-map rows entry)

    pub gap_within : (name : List ℕ) (i : ℕ) → IsGapFor name (entries m) i → i ≤ length rows
    gap_within name i at = omega (arith, at.within, ap length entries_seen, length-map rows entry)

    -- the row at the place of a name
    module _ (name : List ℕ) (i : ℕ) (at : IsAt name (entries m) i) (old : E) (is : old ≡ get_or rows i old) where
      read_at : entry old ≡ get_or (entries m) i (entry old)
      read_at = sym (read_entry rows i old (index_within name i at) is (entry old)) ∙ ap (λ es. get_or es i (entry old)) (sym entries_seen)

      pub got_at : Some (entry old).1 ≡ get m name
      got_at = ap (λ (e : List ℕ × X). Some e.1) read_at ∙ sym (at.found (entry old)) ∙ sym (get-entries m name)

      -- it takes another value
      module _ (new : E) (same : (entry new).0 ≡ (entry old).0) where
        named : (entry new).0 ≡ name
        named = same ∙ ap (λ (e : List ℕ × X). e.0) read_at ∙ at.named (entry old)

        pub changed_in_order : IsTrue (is_sorted name_cmp (map entry (set rows i new)))
        changed_in_order = (rows_put rows (set rows i new) name (entry new).1 sorted (rows_changed rows i new name (rw entries_seen at at) named)).sorted

        pub changed_at : from_sorted {R = name_cmp} (map entry (set rows i new)) ≡ map_insert m name (entry new).1
        changed_at = (rows_put rows (set rows i new) name (entry new).1 sorted (rows_changed rows i new name (rw entries_seen at at) named)).inserted ∙ ap (λ n. map_insert n name (entry new).1) seen

        pub changed_own : get (from_sorted {R = name_cmp} (map entry (set rows i new))) name ≡ Some (entry new).1
        changed_own = ap (λ n. get n name) changed_at ∙ get_own m name (entry new).1

        pub changed_other : (o : List ℕ) → o ≢ name → get (from_sorted {R = name_cmp} (map entry (set rows i new))) o ≡ get m o
        changed_other o apart = ap (λ n. get n o) changed_at ∙ get_other m name (entry new).1 o apart

    -- a row goes into the gap for its name
    pub inserted_at : (name : List ℕ) (i : ℕ) (row : E) → IsGapFor name (entries m) i → (entry row).0 ≡ name
        → record { sorted : IsTrue (is_sorted name_cmp (map entry (insert rows i row))); inserted : from_sorted {R = name_cmp} (map entry (insert rows i row)) ≡ map_insert m name (entry row).1 }
    inserted_at name i row at same =
        let put = rows_put rows (insert rows i row) name (entry row).1 sorted (rows_inserted rows i row name (rw entries_seen at at) same) in
        record { sorted = put.sorted; inserted = put.inserted ∙ ap (λ n. map_insert n name (entry row).1) seen }

    -- the row at the place of a name goes
    module _ (name : List ℕ) (i : ℕ) (at : IsAt name (entries m) i) (old : E) where
      gone : map entry (list_remove rows i) ≡ where_key name_cmp (is_other name) (entries m)
      gone = entries_removed rows i ∙ ap (λ es. list_remove es i) (sym entries_seen) ∙ one_goes name (entries m) i (entry old) at.within (entries_sorted m) (at.named (entry old))

      pub removed_in_order : IsTrue (is_sorted name_cmp (map entry (list_remove rows i)))
      removed_in_order = is_true _ (subst (λ es. T (is_sorted name_cmp es)) (sym gone) (is_sorted-where_key name_cmp (is_other name) (entries m) (entries_sorted m)))

      pub removed_at : from_sorted {R = name_cmp} (map entry (list_remove rows i)) ≡ remove m name
      removed_at = without_is m _ name (entries_of_rows (list_remove rows i) removed_in_order ∙ gone)

-- to take away what isn't there changes nothing
pub remove_absent : {X : Type 0} (m : FinMap name_cmp X) (name : List ℕ) → get m name ≡ None → remove m name ≡ m
remove_absent m name none = same_map names_total names_same _ _ (λ q. get-remove names_total m name q ∙ (elim (eq_by_cmp name_cmp q name) as (λ b. eq_by_cmp name_cmp q name ≡ b → cond b None (get m q) ≡ get m q) [
  | true ↦ λ e. sym (ap (get m) (names_same q name (same_from_tied _ (subst T (sym e) tt))) ∙ none)
  | false ↦ λ e. refl
] refl))

pub none_at_gap : {X : Type 0} (m : FinMap name_cmp X) (name : List ℕ) (i : ℕ) → IsGapFor name (entries m) i → None ≡ get m name
none_at_gap m name i at = sym (get-entries m name ∙ at.absent)

pub made_of_none : {X : Type 0} → from_sorted {X = X} {R = name_cmp} [] ≡ empty
made_of_none = empty_of_len _ (len-entries _ ∙ ap length (entries-from_sorted name_cmp [] tt))
