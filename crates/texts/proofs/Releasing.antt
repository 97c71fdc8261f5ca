-- The rows of a version and their pages: a text is taken away by the rows that its version shows.
use Rattle.texts.proofs.Outside.{◌≡◌, ◌==◌, ◌<◌, ◌≤◌, ◌⊎◌, inl, inr, ℕ, zero, suc, ◌+◌, ◌-◌, nat_lt, Bool, true, false, ◌&&◌, not, cond, List, [], ◌∷◌, map, filter, find, length, slice_get, slice_index_or, IsSome, Option, Some, None, option_map, Result, Ok, Err, IfOk, IfErr, OnOk, OnErr, refl, sym, ap, ap₂, ◌∙◌, subst, arith, bytes_eq, AllByRecursion, lt-ltb, le-ltb, IsPermutation-sym, slice_get_within, all-permutation, Row, column, delete_where, all_kept, all-slice_get, State, KeepsCommit, Shown, FailsToQuery, IsTooLate, IsUnchanged, IsRolledBack, Error, IsQuery, Kept, VpageRow, number, AnyRows, LeavesAsIs, Moves, Tables, Holds, shown_calm, failed_calm, number_read, page_bytes, page_uses, page_used, page_removed, released_found, page_released, moves_then, none_passes, as_it_is, one_query, still_holds, failed_behind, moved_behind}
use Rattle.std.proofs.lemmas.Bool.Decides.{nat_tests}
use Rattle.texts.specs.Texts.{pages_for, text_removed, is_place_of, is_place, place_removed, page_name, page_at, released_at, bytes_named, piece_of, pieces_removed, WereThere}
use Rattle.texts.specs.Inner.Calls.{places_removed, place_shown, AreRowsOf, name_in, row_at, name_at, released_by, WereReleased}
use Rattle.texts.proofs.NextPiece.{one_more, each_more}
use Rattle.texts.proofs.PlaceLaws.{place_parts, place_from, version_parts, version_from, other_place}
use Rattle.texts.proofs.RemovedLaws.{released_places, removed_rows, gone_find}
use Rattle.texts.proofs.WholeReads.{all_found}

-- ---- a query inside a transaction

pub query_reads : {X : Type 0} (items : X → List Row) (text : List ℕ) (is : IsQuery text) (params : Row) (old new : State) (result : Result X Error) → IfOk result (λ x. Shown text params old new (items x))
    → IfErr result (λ e. FailsToQuery text params old new e ⊎ IsTooLate text params old new e) → OnOk result (LeavesAsIs old new) × OnErr result (KeepsCommit old new)
query_reads items text is params old new (Ok x) shown failed = (one_query old new (shown_calm text is params old new (items x) shown), tt)
query_reads items text is params old new (Err e) shown failed = (tt, failed_behind old old new (as_it_is old) (calm failed))
  where
    calm : FailsToQuery text params old new e ⊎ IsTooLate text params old new e → IsUnchanged old new ⊎ IsRolledBack old new
    calm (inl fails) = failed_calm text is params old new e fails
    calm (inr late) = inl late.5

-- ---- lists

shown_at : {X : Type 0} (f : X → Row) (xs : List X) (i : ℕ) (x : X) → slice_get xs i ≡ Some x → slice_index_or (map f xs) i [] ≡ f x
shown_at f [] i x at = absurd (let none : ⊥ = cc in none)
shown_at f (y ∷ ys) zero x at = let same : y ≡ x = cc in ap f same
shown_at f (y ∷ ys) (suc i) x at = shown_at f ys i x at

-- the member at a place that a list has
pub index_same : (xs : List Row) (i : ℕ) (x y : Row) → i < length xs → slice_index_or xs i x ≡ slice_index_or xs i y
index_same [] i x y low = absurd (omega (arith, low))
index_same (z ∷ zs) zero x y low = refl
index_same (z ∷ zs) (suc i) x y low = index_same zs i x y (omega (arith, low))

get_there : {X : Type 0} (xs : List X) (i : ℕ) → i < length xs → (x : X) × (slice_get xs i ≡ Some x)
get_there [] i low = absurd (omega (arith, low))
get_there (x ∷ xs) zero low = (x, refl)
get_there (x ∷ xs) (suc i) low = get_there xs i (omega (arith, low))

all_got : {X : Type 0} (P : X → Type 0) (xs : List X) → ((i : ℕ) (x : X) → slice_get xs i ≡ Some x → P x) → AllByRecursion P xs
all_got P [] each = tt
all_got P (x ∷ xs) each = (each 0 x refl, all_got P xs (λ i y at. each (suc i) y at))

to_passing : {X : Type 0} (P Q : X → Type 0) (p : X → Bool) → ((x : X) → p x ≡ true → P x → Q x) → (xs : List X) → AllByRecursion P xs → AllByRecursion Q (filter p xs)
to_passing P Q p means [] all = tt
to_passing {X} P Q p means (x ∷ xs) all = go (p x) refl (to_passing P Q p means xs all.1)
  where
    go : (b : Bool) → p x ≡ b → AllByRecursion Q (filter p xs) → AllByRecursion Q (cond b (x ∷ filter p xs) (filter p xs))
    go true is rest = (means x is all.0, rest)
    go false is rest = rest

deleted_then : {X : Type 0} (p q r : X → Bool) (xs : List X) → AllByRecursion (λ x. (not (q x) && not (p x)) ≡ not (r x)) xs → delete_where p (delete_where q xs) ≡ delete_where r xs
deleted_then p q r [] all = refl
deleted_then {X} p q r (x ∷ xs) all = go (q x) (p x) (r x) refl all.0 (deleted_then p q r xs all.1)
  where
    go : (b c d : Bool) → p x ≡ c → (not b && not c) ≡ not d → delete_where p (delete_where q xs) ≡ delete_where r xs
        → delete_where p (cond (not b) (x ∷ delete_where q xs) (delete_where q xs)) ≡ cond (not d) (x ∷ delete_where r xs) (delete_where r xs)
    go true c true is same rest = rest
    go true c false is same rest = absurd (let none : ⊥ = cc in none)
    go false true true is same rest = ap (λ e. cond (not e) (x ∷ delete_where p (delete_where q xs)) (delete_where p (delete_where q xs))) is ∙ rest
    go false true false is same rest = absurd (let none : ⊥ = cc in none)
    go false false true is same rest = absurd (let none : ⊥ = cc in none)
    go false false false is same rest = ap (λ e. cond (not e) (x ∷ delete_where p (delete_where q xs)) (delete_where p (delete_where q xs))) is ∙ ap (λ l. x ∷ l) rest

deleted_as : {X : Type 0} (p q : X → Bool) (xs : List X) → AllByRecursion (λ x. p x ≡ q x) xs → delete_where p xs ≡ delete_where q xs
deleted_as p q [] all = refl
deleted_as p q (x ∷ xs) all = ap₂ (λ b l. cond (not b) (x ∷ l) l) all.0 (deleted_as p q xs all.1)

-- ---- pages that are released in turn

module _ (rows : List Row) where
  pub released_more : (place : ℕ) (t : Tables) → page_released (name_at rows place).key (name_at rows place).twin (released_by rows place t) ≡ released_by rows (place + 1) t
  released_more place t = ap (λ m. released_by rows m t) (one_more place)

  pub were_released_more : (place : ℕ) (t : Tables) → column (row_at rows place) 2 ≡ number place → WereReleased rows place t → IsSome (page_bytes (name_at rows place).key (name_at rows place).twin (released_by rows place t)) → WereReleased rows (place + 1) t
  were_released_more place t shows before one = each_more (λ m. (column (row_at rows m) 2 ≡ number m) × IsSome (page_bytes (name_at rows m).key (name_at rows m).twin (released_by rows m t))) place before (shows, one)

-- ---- the rows that a version shows

module _ (org ws : List ℕ) (n : ℕ) (t : Tables) (rows : List Row) (are : AreRowsOf org ws n t rows) (in_turn : (place : ℕ) → place < length rows → column (row_at rows place) 2 ≡ number place) where
  abbrev mine : Kept VpageRow → Bool
  mine = is_place_of org ws n

  abbrev shown : List (Kept VpageRow)
  shown = are.0

  as_many : length rows ≡ length shown
  as_many = ap length are.2 ∙ length_mapped place_shown shown
    where
      length_mapped : {X : Type 0} (f : X → Row) (xs : List X) → length (map f xs) ≡ length xs
      length_mapped f [] = refl
      length_mapped f (x ∷ xs) = ap suc (length_mapped f xs)

  row_is : (i : ℕ) (x : Kept VpageRow) → slice_get shown i ≡ Some x → row_at rows i ≡ place_shown x
  row_is i x at = ap (λ l. row_at l i) are.2 ∙ shown_at place_shown shown i x at

  place_is : (i : ℕ) (x : Kept VpageRow) → slice_get shown i ≡ Some x → x.1.place ≡ i
  place_is i x at =
      let low : i < length rows = let within = slice_get_within shown i x at in omega (arith, within, as_many) in
      sym (number_read x.1.place i (sym (ap (λ r. column r 2) (row_is i x at)) ∙ in_turn i low))

  name_is : (i : ℕ) (x : Kept VpageRow) → slice_get shown i ≡ Some x → page_name x ≡ name_at rows i
  name_is i x at = sym (ap name_in (row_is i x at))

  -- the place of a row is one of the first, so many, and its page is the one that is named there
  abbrev IsNamed : Kept VpageRow → Type 0
  IsNamed x = (x.1.place < length rows) × (page_name x ≡ name_at rows x.1.place)

  all_named : AllByRecursion (λ x. mine x ≡ true → IsNamed x) t.vpages
  all_named = all_kept IsNamed mine t.vpages (all-permutation IsNamed shown (filter mine t.vpages) (IsPermutation-sym (filter mine t.vpages) shown are.1)
      (all_got IsNamed shown (λ i x at.
      let here = place_is i x at in
      let within = slice_get_within shown i x at in
      (omega (arith, here, within, as_many), name_is i x at ∙ ap (name_at rows) (sym here)))))

  one_mine : (x : Kept VpageRow) (place : ℕ) → is_place org ws n place x ≡ true → mine x ≡ true
  one_mine x place e = let parts = place_parts org ws n x place e in version_from org ws n x parts.0 parts.1.0 parts.1.1.0

  -- the page at each of the places is the one that is named there
  pub page_named : (place : ℕ) → place < length rows → page_at org ws n place t ≡ Some (name_at rows place)
  page_named place low = go (find (is_place org ws n place) t.vpages) refl
    where
      one : (x : Kept VpageRow) × (slice_get shown place ≡ Some x)
      one = get_there shown place (omega (arith, low, as_many))

      none : find (is_place org ws n place) t.vpages ≡ None → ⊥
      none is =
          let away : AllByRecursion (λ x. ¬ (x.1.place ≡ place)) (filter mine t.vpages) = apart (none_passes (is_place org ws n place) t.vpages is) in
          all-slice_get (λ (x : Kept VpageRow). ¬ (x.1.place ≡ place)) shown place one.0 one.1 (all-permutation (λ (x : Kept VpageRow). ¬ (x.1.place ≡ place)) (filter mine t.vpages) shown are.1 away) (place_is place one.0 one.1)
        where
          apart : AllByRecursion (λ x. is_place org ws n place x ≡ false) t.vpages → AllByRecursion (λ x. ¬ (x.1.place ≡ place)) (filter mine t.vpages)
          apart all = to_passing (λ x. is_place org ws n place x ≡ false) (λ x. ¬ (x.1.place ≡ place)) mine (λ x passes not_it at.
              let parts = version_parts org ws n x passes in
              let no_one : ⊥ = cc (sym (place_from org ws n x place parts.0 parts.1.0 parts.1.1 at) ∙ not_it) in no_one) t.vpages all

      go : (o : Option (Kept VpageRow)) → find (is_place org ws n place) t.vpages ≡ o → option_map page_name o ≡ Some (name_at rows place)
      go None is = absurd (none is)
      go (Some x) is =
          let found = all_found (λ x. mine x ≡ true → IsNamed x) (is_place org ws n place) t.vpages x is all_named in
          let parts = place_parts org ws n x place found.1 in
          ap Some ((found.0 (one_mine x place found.1)).1 ∙ ap (name_at rows) parts.1.1.1)

  -- ---- what goes

  abbrev after : ℕ → Tables
  after place = pieces_removed org ws n place t

  abbrev rest : ℕ → Tables
  rest place = released_by rows place (places_removed org ws n t)

  rest_places : (place : ℕ) → (rest place).vpages ≡ delete_where mine t.vpages
  rest_places zero = refl
  rest_places (suc place) = released_places (name_at rows place).key (name_at rows place).twin (rest place) ∙ rest_places place

  abbrev gone_to : ℕ → Kept VpageRow → Bool
  gone_to place x = mine x && nat_lt x.1.place place

  -- rows at the first places have gone
  after_places : (place : ℕ) → (after place).vpages ≡ delete_where (gone_to place) t.vpages
  after_places zero = sym (none_gone t.vpages)
    where
      none_gone : (xs : List (Kept VpageRow)) → delete_where (gone_to 0) xs ≡ xs
      none_gone [] = refl
      none_gone (x ∷ xs) = go (mine x) (none_gone xs)
        where
          go : (b : Bool) → delete_where (gone_to 0) xs ≡ xs → cond (not (b && nat_lt x.1.place 0)) (x ∷ delete_where (gone_to 0) xs) (delete_where (gone_to 0) xs) ≡ x ∷ xs
          go true same = ap (λ c. cond (not c) (x ∷ delete_where (gone_to 0) xs) (delete_where (gone_to 0) xs)) (le-ltb x.1.place 0 (omega arith)) ∙ ap (λ l. x ∷ l) same
          go false same = ap (λ l. x ∷ l) same
  after_places (suc place) =
      removed_rows org ws n place (after place) ∙ ap (delete_where (is_place org ws n place)) (after_places place)
      ∙ deleted_then (is_place org ws n place) (gone_to place) (gone_to (suc place)) t.vpages (all_got _ t.vpages (λ _ x _. one_more x))
    where
      one_more : (x : Kept VpageRow) → (not (gone_to place x) && not (is_place org ws n place x)) ≡ not (gone_to (suc place) x)
      one_more x = go (bytes_eq x.1.org org) (bytes_eq x.1.ws ws) (x.1.number == n)
        where
          by_place : (not (nat_lt x.1.place place) && not (x.1.place == place)) ≡ not (nat_lt x.1.place (suc place))
          by_place = grind (arith, nat_tests)

          go : (a b c : Bool) → (not ((a && (b && c)) && nat_lt x.1.place place) && not (a && (b && (c && x.1.place == place)))) ≡ not ((a && (b && c)) && nat_lt x.1.place (suc place))
          go true true true = by_place
          go true true false = refl
          go true false c = refl
          go false b c = refl

  over : (key : List ℕ) (twin : ℕ) (u : Tables) (xs : List (Kept VpageRow)) → page_released key twin (record u { vpages = xs }) ≡ record (page_released key twin u) { vpages = xs }
  over key twin u xs = go (page_uses key twin u)
    where
      less : (b : Bool) (uses : ℕ) → cond b (page_used key twin (uses - 1) (record u { vpages = xs })) (page_removed key twin (record u { vpages = xs })) ≡ record (cond b (page_used key twin (uses - 1) u) (page_removed key twin u)) { vpages = xs }
      less true uses = refl
      less false uses = refl

      go : (o : Option ℕ) → released_found key twin o (record u { vpages = xs }) ≡ record (released_found key twin o u) { vpages = xs }
      go None = refl
      go (Some uses) = less (nat_lt 1 uses) uses

  -- as the rows go one by one, the pages are those that the rows that went at once leave
  after_is : (place : ℕ) → place ≤ length rows → after place ≡ record (rest place) { vpages = (after place).vpages }
  after_is zero low = refl
  after_is (suc place) low =
      let name = name_at rows place in
      let before = after_is place (omega (arith, low)) in
      let at : page_at org ws n place (after place) ≡ Some name =
      ap (option_map page_name) (gone_find org ws n t (is_place org ws n place) place (λ q below x e. other_place org ws n q place (λ same. absurd (omega (arith, below, same))) x e)) ∙ page_named place (omega (arith, low)) in
      let left = delete_where (is_place org ws n place) (after place).vpages in
      let made : after (suc place) ≡ record (rest (suc place)) { vpages = left } =
      ap (λ o. released_at o (place_removed org ws n place (after place))) at ∙ ap (λ (u : Tables). page_released name.key name.twin (place_removed org ws n place u)) before ∙ over name.key name.twin (rest place) left in
      made ∙ ap (λ xs. record (rest (suc place)) { vpages = xs }) (sym (ap (λ (u : Tables). u.vpages) made))

  -- all rows of the version have gone
  all_gone : (after (length rows)).vpages ≡ delete_where mine t.vpages
  all_gone = after_places (length rows) ∙ deleted_as (gone_to (length rows)) mine t.vpages (by_row t.vpages all_named)
    where
      by_row : (xs : List (Kept VpageRow)) → AllByRecursion (λ x. mine x ≡ true → IsNamed x) xs → AllByRecursion (λ x. gone_to (length rows) x ≡ mine x) xs
      by_row [] all = tt
      by_row (x ∷ xs) all = (go (mine x) refl, by_row xs all.1)
        where
          go : (b : Bool) → mine x ≡ b → (b && nat_lt x.1.place (length rows)) ≡ b
          go true is = lt-ltb x.1.place (length rows) (all.0 is).0
          go false is = refl

  pub released_is : released_by rows (length rows) (places_removed org ws n t) ≡ pieces_removed org ws n (length rows) t
  released_is = sym (after_is (length rows) (omega arith) ∙ ap (λ xs. record (rest (length rows)) { vpages = xs }) (all_gone ∙ sym (rest_places (length rows))))

  pub were_there : WereReleased rows (length rows) (places_removed org ws n t) → WereThere org ws n (length rows) t
  were_there gone place low =
      let name = name_at rows place in
      let at : page_at org ws n place (after place) ≡ Some name =
      ap (option_map page_name) (gone_find org ws n t (is_place org ws n place) place (λ q below x e. other_place org ws n q place (λ same. absurd (omega (arith, below, same))) x e)) ∙ page_named place low in
      let bytes : piece_of org ws n place (after place) ≡ page_bytes name.key name.twin (rest place) =
      ap (λ o. bytes_named o (after place)) at ∙ ap (page_bytes name.key name.twin) (after_is place (omega (arith, low))) in
      subst IsSome (sym bytes) (gone place low).1

-- ---- the call

module _ (org ws : List ℕ) (n size places : ℕ) (rows : List Row) (many : length rows ≡ places) (due : places ≡ pages_for size) (a b c d : State) (unchanged : LeavesAsIs a b) (are : (t : Tables) → Holds a.now t → AreRowsOf org ws n t rows)
    (removed : Moves AnyRows (places_removed org ws n) b c) where
  -- the rows behind the first write, from those before the query
  abbrev held_then : (t : Tables) → Holds a.now t → Holds c.now (places_removed org ws n t)
  held_then t holds = removed.rows t (still_holds a b unchanged t holds) tt

  gone_is : (t : Tables) → Holds a.now t → WereReleased rows places (places_removed org ws n t) → released_by rows places (places_removed org ws n t) ≡ text_removed org ws n size t
  gone_is t holds reported =
      ap (λ m. released_by rows m (places_removed org ws n t)) (sym many) ∙ released_is org ws n t rows (are t holds) (λ place low. (reported place (omega (arith, low, many))).0) ∙ ap (λ m. pieces_removed org ws n m t) (many ∙ due)

  pub text_gone : {X E : Type 0} (result : Result X E) → OnOk result (Moves AnyRows (released_by rows places) c d) × OnErr result (KeepsCommit c d) → OnOk result ((t : Tables) → Holds c.now t → WereReleased rows places t)
      → OnOk result (Moves AnyRows (text_removed org ws n size) a d) × OnErr result (KeepsCommit a d)
  text_gone (Ok x) done there =
      let f = λ (t : Tables). released_by rows places (places_removed org ws n t) in
      let all = moved_behind f f a b d unchanged (λ t holds. refl) (moves_then AnyRows AnyRows (places_removed org ws n) (released_by rows places) b c d (λ t any. tt) removed done.0) in (
        record {
          rows = λ t holds any. subst (Holds d.now) (gone_is t holds (there (places_removed org ws n t) (held_then t holds))) (all.rows t holds tt);
          others = all.others;
          was_open = all.was_open;
          is_open = all.is_open;
          committed = all.committed;
          inside = all.inside;
        },
        tt,
      )
  text_gone (Err e) done there = (tt, record { was_open = λ _. unchanged.was_open removed.was_open; committed = λ is. done.1.committed is ∙ removed.committed ∙ unchanged.committed })

  pub text_was_there : {X E : Type 0} (result : Result X E) → OnOk result ((t : Tables) → Holds c.now t → WereReleased rows places t) → OnOk result ((t : Tables) → Holds a.now t → WereThere org ws n (pages_for size) t)
  text_was_there (Ok x) there = λ t holds.
      let reported = there (places_removed org ws n t) (held_then t holds) in
      subst (λ m. WereThere org ws n m t) (many ∙ due) (were_there org ws n t rows (are t holds) (λ place low. (reported place (omega (arith, low, many))).0) (subst (λ m. WereReleased rows m (places_removed org ws n t)) (sym many) reported))
  text_was_there (Err e) there = tt
