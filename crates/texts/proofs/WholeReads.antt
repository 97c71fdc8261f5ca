-- What the query that a text is read by shows: for each place of a version the bytes of its page.
use Rattle.texts.proofs.Outside.{◌≡◌, ℕ, Bool, true, false, cond, List, [], ◌∷◌, ◌++◌, map, filter, find, flat_map, Option, Some, None, option_map, Result, Ok, Err, IfOk, OnOk, OnErr, refl, sym, ap, ◌∙◌, subst, list_all, AllByRecursion, true≢false, IsPermutation-sym, Null, Text, Blob, Row, column, all-permutation, Env, holds, eval_all, Query, Output, matches, or_nulls, output, IsAnswer, overlay, State, Shown, KeepsCommit, reads_as, Select, all_of, all_weaker, all_map, all_unmap, all-flat_map, flat_map-map, filter-map, filter_same, tree_of, vpage_table, page_table, Kept, VpageRow, PageRow, stored, vpage_cells, page_cells, number, Tables, Holds, vpage_layout, page_layout, IsHeld, vpages_held, pages_held, joined_listing, plain_program, stored_tree, number_read, blob_read, two_texts_number, none_passes, is_page, LeavesAsIs}
use Rattle.sqlite_trees.specs.Tree.{Trees}
use Rattle.texts.specs.declared.reading.TheConstants.{TEXT_PIECES}
use Rattle.statements.proofs.Lefts.{row_or}
use Rattle.pages.proofs.PageWrites.{blob_number}
use Rattle.texts.specs.Texts.{is_place_of, is_place, page_name, bytes_named, piece_of, joined, AreThere}
use Rattle.texts.specs.Inner.Calls.{ShowsPlace, AreInTurn}
use Rattle.texts.proofs.PlaceLaws.{place_parts, place_from, version_parts, version_from}
use Rattle.texts.proofs.WholeTexts.{whole_means, whole_rest, whole_names, with_page, names_it}

-- ---- lists

all_front : {A : Type 0} (P : A → Type 0) (xs ys : List A) → AllByRecursion P (xs ++ ys) → AllByRecursion P xs
all_front P [] ys all = tt
all_front P (x ∷ xs) ys all = (all.0, all_front P xs ys all.1)

all_back : {A : Type 0} (P : A → Type 0) (xs ys : List A) → AllByRecursion P (xs ++ ys) → AllByRecursion P ys
all_back P [] ys all = all
all_back P (x ∷ xs) ys all = all_back P xs ys all.1

-- what holds of all that a list's members give holds of what each gives
all_given : {A B : Type 0} (P : B → Type 0) (f : A → List B) (xs : List A) → AllByRecursion P (flat_map f xs) → AllByRecursion (λ x. AllByRecursion P (f x)) xs
all_given P f [] all = tt
all_given P f (x ∷ xs) all = (all_front P (f x) (flat_map f xs) all, all_given P f xs (all_back P (f x) (flat_map f xs) all))

-- and of the member that is found
pub all_found : {A : Type 0} (P : A → Type 0) (p : A → Bool) (xs : List A) (x : A) → find p xs ≡ Some x → AllByRecursion P xs → P x × (p x ≡ true)
all_found P p [] x e all = absurd (let none : ⊥ = cc in none)
all_found {A} P p (y ∷ ys) x e all = go (p y) refl e (all_found P p ys x)
  where
    go : (b : Bool) → p y ≡ b → cond b (Some y) (find p ys) ≡ Some x → (find p ys ≡ Some x → AllByRecursion P ys → P x × (p x ≡ true)) → P x × (p x ≡ true)
    go true passes is more = let same : y ≡ x = cc in (subst P same all.0, subst (λ (z : A). p z ≡ true) same passes)
    go false passes is more = more is all.1

first_joined : {Y : Type 0} (R : Row → Type 0) (cells : Y → Row) (p : Y → Bool) (ys : List Y) → AllByRecursion R (or_nulls (map cells (filter p ys))) → R (row_or cells (find p ys))
first_joined R cells p [] all = all.0
first_joined {Y} R cells p (y ∷ ys) all = go (p y) all (first_joined R cells p ys)
  where
    go : (b : Bool) → AllByRecursion R (or_nulls (map cells (cond b (y ∷ filter p ys) (filter p ys)))) → (AllByRecursion R (or_nulls (map cells (filter p ys))) → R (row_or cells (find p ys)))
        → R (row_or cells (cond b (Some y) (find p ys)))
    go true all more = all.0
    go false all more = more all

-- ---- the rows of the answer

module _ (old new : State) (t : Tables) (h : Holds old.now t) (org ws : List ℕ) (n : ℕ) where
  abbrev vpages : IsHeld vpage_layout old.now t.vpages
  vpages = vpages_held old.now t h

  abbrev pages : IsHeld page_layout old.now t.pages
  pages = pages_held old.now t h

  abbrev params : Row
  params = Text org ∷ Text ws ∷ number n ∷ []

  abbrev places_tree : ℕ
  places_tree = tree_of old.now.schema vpage_table.name

  abbrev pages_tree : ℕ
  pages_tree = tree_of old.now.schema page_table.name

  abbrev db : Trees
  db = overlay old.now.trees []

  abbrev asked : Query
  asked = joined_listing whole_rest places_tree (with_page pages_tree) 4

  abbrev env : Kept VpageRow → Row → Env
  env x z = params ∷ stored vpage_cells x ∷ z ∷ []

  abbrev show : Env → Row
  show e = eval_all whole_rest.project e

  abbrev passing : Kept VpageRow → Row → List Env
  passing x z = cond (list_all (holds (env x z)) whole_rest.filter) (env x z ∷ []) []

  abbrev joins : Kept VpageRow → Row → Bool
  joins x z = list_all (holds (env x z)) names_it

  -- what a row of vpage gives
  abbrev given : Kept VpageRow → List Env
  given x = flat_map (passing x) (or_nulls (filter (joins x) (db pages_tree)))

  matched_is : matches db whole_rest.filter asked.from (params ∷ []) ≡ flat_map given t.vpages
  matched_is =
      let below = λ (r : Row). matches db whole_rest.filter (with_page pages_tree) (params ∷ r ∷ []) in
      ap (flat_map below) (stored_tree old.now.trees places_tree vpages.own.place.low ∙ vpages.rows) ∙ flat_map-map below (stored vpage_cells) t.vpages

  is_of : (x : Kept VpageRow) (z : Row) → list_all (holds (env x z)) whole_rest.filter ≡ is_place_of org ws n x
  is_of x z = two_texts_number x.1.org org x.1.ws ws x.1.number n

  joined_are : (x : Kept VpageRow) → filter (joins x) (db pages_tree) ≡ map (stored page_cells) (filter (is_page x.1.key x.1.twin) t.pages)
  joined_are x =
      ap (filter (joins x)) (stored_tree old.now.trees pages_tree pages.own.place.low ∙ pages.rows)
      ∙ filter-map (joins x) (stored page_cells) t.pages ∙ ap (map (stored page_cells)) (filter_same _ (is_page x.1.key x.1.twin) (λ y. blob_number y.1.key x.1.key y.1.twin x.1.twin) t.pages)

  module _ (rows : List Row) (a : IsAnswer asked db params rows) (P : Row → Type 0) where
    -- what holds of all that the matches show holds of the rows, and the other way
    to_rows : AllByRecursion (λ x. AllByRecursion (λ e. P (show e)) (given x)) t.vpages → AllByRecursion P rows
    to_rows all =
        let staged = subst (AllByRecursion (λ (e : Env). P (show e))) (sym (a.grouped ∙ matched_is)) (all-flat_map (λ (e : Env). P (show e)) given t.vpages all) in
        let kept = subst (AllByRecursion (λ (o : Output). P o.1)) (sym a.distinct) (all_map (λ (o : Output). P o.1) (output asked) a.staged staged) in
        subst (AllByRecursion P) (sym a.shown) (all_map P (λ (o : Output). o.1) a.ordered (all-permutation (λ (o : Output). P o.1) a.kept a.ordered a.same kept))

    from_rows : AllByRecursion P rows → AllByRecursion (λ x. AllByRecursion (λ e. P (show e)) (given x)) t.vpages
    from_rows all =
        let ordered = all_unmap P (λ (o : Output). o.1) a.ordered (subst (AllByRecursion P) a.shown all) in
        let kept = all-permutation (λ (o : Output). P o.1) a.ordered a.kept (IsPermutation-sym a.kept a.ordered a.same) ordered in
        let staged = all_unmap (λ (o : Output). P o.1) (output asked) a.staged (subst (AllByRecursion (λ (o : Output). P o.1)) a.distinct kept) in
        all_given (λ (e : Env). P (show e)) given t.vpages (subst (AllByRecursion (λ (e : Env). P (show e))) (a.grouped ∙ matched_is) staged)

  -- the row of page that a row of the version names, or none, is among what that gives
  one_given : (x : Kept VpageRow) → is_place_of org ws n x ≡ true → (P : Env → Type 0) → AllByRecursion P (given x) → P (env x (row_or (stored page_cells) (find (is_page x.1.key x.1.twin) t.pages)))
  one_given x mine P all =
      let each = all_given P (passing x) (or_nulls (filter (joins x) (db pages_tree))) all in
      let one = first_joined (λ z. AllByRecursion P (passing x z)) (stored page_cells) (is_page x.1.key x.1.twin) t.pages (subst (λ l. AllByRecursion (λ z. AllByRecursion P (passing x z)) (or_nulls l)) (joined_are x) each) in
      let z = row_or (stored page_cells) (find (is_page x.1.key x.1.twin) t.pages) in
      (subst (λ (b : Bool). AllByRecursion P (cond b (env x z ∷ []) [])) (is_of x z ∙ mine) one).0

  -- a row that stands at another place, or is of another version, gives none at this one
  none_given : (place : ℕ) (x : Kept VpageRow) → is_place org ws n place x ≡ false → AllByRecursion (λ e. ¬ (column (show e) 0 ≡ number place)) (given x)
  none_given place x not_it = all-flat_map _ (passing x) (or_nulls (filter (joins x) (db pages_tree))) (all_of (λ z. AllByRecursion (λ e. ¬ (column (show e) 0 ≡ number place)) (passing x z)) (λ z. go z (is_place_of org ws n x) refl) _)
    where
      go : (z : Row) (b : Bool) → is_place_of org ws n x ≡ b → AllByRecursion (λ e. ¬ (column (show e) 0 ≡ number place)) (passing x z)
      go z false is = subst (λ (c : Bool). AllByRecursion (λ e. ¬ (column (show e) 0 ≡ number place)) (cond c (env x z ∷ []) [])) (sym (is_of x z ∙ is)) tt
      go z true is = subst (λ (c : Bool). AllByRecursion (λ e. ¬ (column (show e) 0 ≡ number place)) (cond c (env x z ∷ []) [])) (sym (is_of x z ∙ is))
          ((λ at. let mine = version_parts org ws n x is in true≢false (sym (place_from org ws n x place mine.0 mine.1.0 mine.1.1 (sym (number_read x.1.place place at))) ∙ not_it)), tt)

  bytes_found : (bytes : List ℕ) (x : Kept VpageRow) (o : Option (Kept PageRow)) → column (show (env x (row_or (stored page_cells) o))) 1 ≡ Blob bytes → option_map (λ (y : Kept PageRow). y.1.bytes) o ≡ Some bytes
  bytes_found bytes x None is = absurd (let none : ⊥ = cc in none)
  bytes_found bytes x (Some y) is = ap Some (sym (blob_read y.1.bytes bytes is))

  piece_shown : (rows : List Row) → IsAnswer asked db params rows → (place : ℕ) (bytes : List ℕ) → ShowsPlace rows place bytes
      → (found : Option (Kept VpageRow)) → find (is_place org ws n place) t.vpages ≡ found → bytes_named (option_map page_name found) t ≡ Some bytes
  piece_shown rows a place bytes shows None is =
      absurd (shows.some (to_rows rows a (λ r. ¬ (column r 0 ≡ number place)) (all_weaker _ _ (none_given place) t.vpages (none_passes (is_place org ws n place) t.vpages is))))
  piece_shown rows a place bytes shows (Some x) is =
      let P = λ (r : Row). column r 0 ≡ number place → column r 1 ≡ Blob bytes in
      let one = all_found (λ x. AllByRecursion (λ e. P (show e)) (given x)) (is_place org ws n place) t.vpages x is (from_rows rows a P shows.each) in
      let parts = place_parts org ws n x place one.1 in
      bytes_found bytes x (find (is_page x.1.key x.1.twin) t.pages) (one_given x (version_from org ws n x parts.0 parts.1.0 parts.1.1.0) (λ e. P (show e)) one.0 (ap number parts.1.1.1))

  pub whole_shows : (rows : List Row) → Shown TEXT_PIECES.now (Text org ∷ Text ws ∷ number n ∷ []) old new rows → (place : ℕ) (bytes : List ℕ) → ShowsPlace rows place bytes → piece_of org ws n place t ≡ Some bytes
  whole_shows rows shown place bytes shows =
      let means = whole_means old.now.schema _ _ vpages.own.place _ _ pages.own.place in
      let a = (reads_as TEXT_PIECES.now params old new old.now.schema refl (Select (plain_program asked) whole_names) means.0 means.1 means.2 rows shown).answer Null in
      piece_shown rows a place bytes shows (find (is_place org ws n place) t.vpages) refl

-- ---- what the call promises

pub whole_read : {E : Type 0} (old new : State) (org ws : List ℕ) (n places : ℕ) (result : Result (List ℕ) E)
    → IfOk result (λ text. (rows : List Row) × Shown TEXT_PIECES.now (Text org ∷ Text ws ∷ number n ∷ []) old new rows × AreInTurn rows places text) → OnOk result (LeavesAsIs old new) × OnErr result (KeepsCommit old new)
    → (IfOk result (λ x. (t : Tables) → Holds old.now t → x ≡ joined org ws n places t) × (OnOk result (LeavesAsIs old new) × OnErr result (KeepsCommit old new)))
    × OnOk result ((t : Tables) → Holds old.now t → AreThere org ws n places t)
whole_read old new org ws n places (Ok text) got unchanged =
    let is = λ (t : Tables) (h : Holds old.now t). got.2.text_is org ws n t (whole_shows old new t h org ws n got.0 got.1) in
    ((λ t h. (is t h).0, unchanged), λ t h. (is t h).1)
whole_read old new org ws n places (Err e) got unchanged = ((tt, unchanged), tt)
