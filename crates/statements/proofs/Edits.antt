-- What an edit makes of a table, as a function of its typed rows.
use Rattle.statements.proofs.Outside.{◌≡◌, ℕ, ℤ, pos, ◌+ℤ◌, Bool, false, None, List, [], ◌∷◌, ◌++◌, map, filter, fold, drop, refl, sym, ap, ap₂, ◌∙◌, subst, IsPermutation, list_all, IsPermutation-refl, IsPermutation-trans, IsPermutation-cons, IsPermutation-middle, Null, Int, Row, Trees, rowid, put_row, holds, eval_all, Query, Output, output, inner, end, matches, page, IsKept, IsAnswer, IsGrouped, Table, Chosen, Given, cast_row, edit_of, edited, numbered, next_rowid, put_all, without_all, ids_of, IsKeyedBy, insert_by, next_key, update_where, delete_where, without_key, along_permutation, map-map, map_same, insert_next, IsKeyedBy-insert_by, last_table, at_end}
use Rattle.std.proofs.lemmas.List.Folds.{fold-map}
use Rattle.sqlite_rules.proofs.PlaceLemmas.{given as numbered_given}
use Rattle.sqlite_typed.proofs.RowLemmas.{puts-map, deletes-map}
use Rattle.statements.specs.Rows.{Kept, id_of, stored}
use Rattle.statements.specs.Changes.{with_next, with_all}
use Rattle.statements.proofs.KeyedLists.{updated, deleted}

-- what a permutation of a mapped list is a map of
pub unmapped : {X Y : Type 0} (f : X → Y) (ys zs : List Y) → IsPermutation ys zs → (xs : List X) → ys ≡ map f xs → (ws : List X) × IsPermutation xs ws × (zs ≡ map f ws)
unmapped {X} {Y} f = along_permutation (λ ys zs. (xs : List X) → ys ≡ map f xs → (ws : List X) × IsPermutation xs ws × (zs ≡ map f ws))
    (λ ys xs is. (xs, IsPermutation-refl xs, is))
    skip
    turn
    (λ ws ys zs p q xs is. let one = p xs is in let two = q one.0 one.2 in (two.0, IsPermutation-trans xs one.0 two.0 one.1 two.1, two.2))
  where
    skip : (y : Y) (ys zs : List Y) → ((xs : List X) → ys ≡ map f xs → (ws : List X) × IsPermutation xs ws × (zs ≡ map f ws))
        → (xs : List X) → y ∷ ys ≡ map f xs → (ws : List X) × IsPermutation xs ws × (y ∷ zs ≡ map f ws)
    skip y ys zs h [] is = absurd (cc)
    skip y ys zs h (x ∷ xs) is =
        let first : y ≡ f x = cc in
        let later : ys ≡ map f xs = cc in
        let more = h xs later in
        (x ∷ more.0, IsPermutation-cons x xs more.0 more.1, ap₂ ◌∷◌ first more.2)

    turn : (y z : Y) (ys : List Y) (xs : List X) → y ∷ z ∷ ys ≡ map f xs → (ws : List X) × IsPermutation xs ws × (z ∷ y ∷ ys ≡ map f ws)
    turn y z ys [] is = absurd (cc)
    turn y z ys (x ∷ []) is = absurd (cc)
    turn y z ys (x ∷ w ∷ xs) is =
        let first : y ≡ f x = cc in
        let second : z ≡ f w = cc in
        let later : ys ≡ map f xs = cc in
        (w ∷ x ∷ xs, IsPermutation-middle (x ∷ []) w xs, ap₂ ◌∷◌ second (ap₂ ◌∷◌ first later))

module _ {R : Type 0} (cells : R → Row) where
  next_is : (ys : List (Kept R)) (n : ℤ) → fold (λ _ r. Rattle.sqlite_rules.specs.Edit.id_in (rowid r) +ℤ pos 1) n (map (stored cells) ys) ≡ fold (λ _ y. id_of y +ℤ pos 1) n ys
  next_is [] n = refl
  next_is (y ∷ ys) n = next_is ys _

module _ {R : Type 0} (cells : R → Row) (db : Trees) (tree : ℕ) (xs : List (Kept R)) (held : db tree ≡ map (stored cells) xs) (keyed : IsKeyedBy id_of xs) where
  -- the rows that a query over the table alone answers, in some order
  pub all_shown : (q : Query) → q.from ≡ inner tree end → q.group ≡ None → q.distinct ≡ false → (params : Row) (p : Kept R → Bool)
      → ((x : Kept R) → list_all (holds (params ∷ stored cells x ∷ [])) q.filter ≡ p x) → ((rows : List Row) → page q params rows ≡ rows) → (rows : List Row) → IsAnswer q db params rows
      → (ys : List (Kept R)) × IsPermutation (filter p xs) ys × (rows ≡ map (λ y. eval_all q.project (params ∷ stored cells y ∷ [])) ys)
  all_shown q from none all params p tests whole rows a =
      let source = last_table db tree (stored cells) id_of xs held keyed (at_end db) in
      let out = λ (x : Kept R). output q (params ∷ stored cells x ∷ []) in
      let found : matches db q.filter (inner tree end) (params ∷ []) ≡ map (λ x. params ∷ stored cells x ∷ []) (filter p xs) =
      source.covers q.filter (params ∷ []) ∙ Rattle.sqlite_keyed.proofs.ListLemmas.filter-map _ _ xs ∙ ap (map (λ x. params ∷ stored cells x ∷ [])) (Rattle.sqlite_keyed.proofs.ListLemmas.filter_same _ p tests xs) in
      let staged : a.staged ≡ matches db q.filter q.from (params ∷ []) = subst (λ g. IsGrouped g params (matches db q.filter q.from (params ∷ [])) a.staged) none a.grouped in
      let kept : a.kept ≡ map (output q) a.staged = subst (λ d. IsKept d q.collations (map (output q) a.staged) a.kept) all a.distinct in
      let are : a.kept ≡ map out (filter p xs) = kept ∙ ap (map (output q)) (staged ∙ ap (λ f. matches db q.filter f (params ∷ [])) from ∙ found) ∙ map-map (output q) _ (filter p xs) in
      let some = unmapped out a.kept a.ordered a.same (filter p xs) are in
      (some.0, some.1, a.shown ∙ ap (λ l. page q params (map (λ (o : Output). o.1) l)) some.2 ∙ whole _ ∙ map-map (λ (o : Output). o.1) out some.0)

  module _ (table : Table) (placed : table.tree ≡ tree) where
    pub updated_rows : (p : Kept R → Bool) (f : Kept R → Kept R) → ((x : Kept R) → id_of (f x) ≡ id_of x) → (show : Kept R → Row) → ((x : Kept R) → rowid (show x) ≡ Int (id_of x))
        → ((x : Kept R) → cast_row table (drop 1 (show x)) ≡ stored cells (f x)) → (rows : List Row) (ys : List (Kept R)) → IsPermutation (filter p xs) ys → rows ≡ map show ys
        → edited db (edit_of db table (ids_of rows) Given 1 rows) ≡ map (stored cells) (update_where p f xs)
    updated_rows p f keeps show ids casts rows ys same is =
        let gone : ids_of (map show ys) ≡ map id_of ys = map-map _ show ys ∙ map_same _ _ (λ x. ap Rattle.sqlite_rules.specs.Edit.id_in (ids x)) ys in
        let left : without_all (db table.tree) (map id_of ys) ≡ map (stored cells) (fold (without_key id_of) xs (map id_of ys)) =
        ap (λ t. without_all (db t) (map id_of ys)) placed ∙ ap (λ l. without_all l (map id_of ys)) held ∙ deletes-map id_of (stored cells) (λ x. refl) (map id_of ys) xs in
        let news : map (λ s. cast_row table (drop 1 s)) (map show ys) ≡ map (stored cells) (map f ys) =
        map-map _ show ys ∙ map_same _ _ casts ys ∙ sym (map-map (stored cells) f ys) in
        ap (λ l. edited db (edit_of db table (ids_of l) Given 1 l)) is
        ∙ ap (put_all (without_all (db table.tree) (ids_of (map show ys)))) (numbered_given _ _ ∙ news)
        ∙ ap (λ l. put_all (without_all (db table.tree) l) (map (stored cells) (map f ys))) gone
        ∙ ap (λ l. put_all l (map (stored cells) (map f ys))) left
        ∙ fold-map (λ rows r. put_row r rows) (stored cells) _ (map f ys)
        ∙ puts-map id_of (stored cells) (λ x. refl) (map f ys) (fold (without_key id_of) xs (map id_of ys))
        ∙ ap (map (stored cells)) (updated id_of p f keeps xs ys keyed same)

    pub deleted_rows : (p : Kept R → Bool) (show : Kept R → Row) → ((x : Kept R) → rowid (show x) ≡ Int (id_of x)) → (rows : List Row) (ys : List (Kept R)) → IsPermutation (filter p xs) ys → rows ≡ map show ys
        → edited db (edit_of db table (ids_of rows) Given 0 []) ≡ map (stored cells) (delete_where p xs)
    deleted_rows p show ids rows ys same is =
        let gone : ids_of (map show ys) ≡ map id_of ys = map-map _ show ys ∙ map_same _ _ (λ x. ap Rattle.sqlite_rules.specs.Edit.id_in (ids x)) ys in
        ap (λ l. without_all (db table.tree) (ids_of l)) is ∙ ap (without_all (db table.tree)) gone
        ∙ ap (λ t. without_all (db t) (map id_of ys)) placed ∙ ap (λ l. without_all l (map id_of ys)) held ∙ deletes-map id_of (stored cells) (λ x. refl) (map id_of ys) xs
        ∙ ap (map (stored cells)) (deleted id_of p xs ys keyed same)

    -- one new row gets the next rowid, and so stands behind the others
    pub inserted_rows : (source : Row) (new : R) → cast_row table source ≡ Null ∷ cells new
        → edited db (edit_of db table [] Chosen 0 (source ∷ [])) ≡ map (stored cells) (xs ++ (next_key id_of xs, new) ∷ [])
    inserted_rows source new casts =
        let next : next_rowid (map (stored cells) xs) ≡ next_key id_of xs = next_is cells xs (pos 1) in
        let made : numbered Chosen (map (stored cells) xs) (cast_row table source ∷ []) ≡ stored cells (next_key id_of xs, new) ∷ [] =
        ap (λ r. numbered Chosen (map (stored cells) xs) (r ∷ [])) casts ∙ ap (λ n. (Int n ∷ cells new) ∷ []) next in
        ap (λ l. put_all l (numbered Chosen l (cast_row table source ∷ []))) (ap db placed ∙ held)
        ∙ ap (put_all (map (stored cells) xs)) made
        ∙ puts-map id_of (stored cells) (λ x. refl) ((next_key id_of xs, new) ∷ []) xs
        ∙ ap (map (stored cells)) (insert_next id_of xs (next_key id_of xs, new) keyed refl)

    -- a row that has its rowid already stands in its place
    pub put_rows : (source : Row) (new : Kept R) → cast_row table source ≡ stored cells new → edited db (edit_of db table [] Chosen 0 (source ∷ [])) ≡ map (stored cells) (insert_by id_of xs new)
    put_rows source new casts =
        ap (λ l. put_all l (numbered Chosen l (cast_row table source ∷ []))) (ap db placed ∙ held)
        ∙ ap (λ r. put_all (map (stored cells) xs) (numbered Chosen (map (stored cells) xs) (r ∷ []))) casts
        ∙ puts-map id_of (stored cells) (λ x. refl) (new ∷ []) xs

-- several new rows get the next rowids in turn
module _ {R : Type 0} (cells : R → Row) where
  one_put : (new : R) (xs : List (Kept R)) → IsKeyedBy id_of xs → put_row (stored cells (next_key id_of xs, new)) (map (stored cells) xs) ≡ map (stored cells) (with_next new xs)
  one_put new xs keyed =
      puts-map id_of (stored cells) (λ x. refl) ((next_key id_of xs, new) ∷ []) xs ∙ ap (map (stored cells)) (insert_next id_of xs (next_key id_of xs, new) keyed refl)

  next_keyed : (new : R) (xs : List (Kept R)) → IsKeyedBy id_of xs → IsKeyedBy id_of (with_next new xs)
  next_keyed new xs keyed = subst (IsKeyedBy id_of) (insert_next id_of xs (next_key id_of xs, new) keyed refl) (IsKeyedBy-insert_by id_of xs (next_key id_of xs, new) keyed)

  pub all_keyed : (news : List R) (xs : List (Kept R)) → IsKeyedBy id_of xs → IsKeyedBy id_of (with_all news xs)
  all_keyed [] xs keyed = keyed
  all_keyed (r ∷ rs) xs keyed = all_keyed rs (with_next r xs) (next_keyed r xs keyed)

  all_put : (news : List R) (xs : List (Kept R)) → IsKeyedBy id_of xs
      → put_all (map (stored cells) xs) (numbered Chosen (map (stored cells) xs) (map (λ r. Null ∷ cells r) news)) ≡ map (stored cells) (with_all news xs)
  all_put [] xs keyed = refl
  all_put (r ∷ rs) xs keyed =
      let id : next_rowid (map (stored cells) xs) ≡ next_key id_of xs = next_is cells xs (pos 1) in
      ap (λ n. put_all (put_row (Int n ∷ cells r) (map (stored cells) xs)) (numbered Chosen (put_row (Int n ∷ cells r) (map (stored cells) xs)) (map (λ r. Null ∷ cells r) rs))) id
      ∙ ap (λ l. put_all l (numbered Chosen l (map (λ r. Null ∷ cells r) rs))) (one_put r xs keyed)
      ∙ all_put rs (with_next r xs) (next_keyed r xs keyed)

  pub inserted_all : (db : Trees) (tree : ℕ) (xs : List (Kept R)) → db tree ≡ map (stored cells) xs → IsKeyedBy id_of xs → (table : Table) → table.tree ≡ tree → (sources : List Row) (news : List R)
      → map (λ s. cast_row table (drop 0 s)) sources ≡ map (λ r. Null ∷ cells r) news → edited db (edit_of db table [] Chosen 0 sources) ≡ map (stored cells) (with_all news xs)
  inserted_all db tree xs held keyed table placed sources news casts =
      ap (λ l. put_all l (numbered Chosen l (map (λ s. cast_row table (drop 0 s)) sources))) (ap db placed ∙ held)
      ∙ ap (λ l. put_all (map (stored cells) xs) (numbered Chosen (map (stored cells) xs) l)) casts
      ∙ all_put news xs keyed
