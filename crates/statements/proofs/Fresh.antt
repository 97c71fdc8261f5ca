-- A row that was added has a key that no row before it has: UNIQUE sees to it.
use Rattle.statements.proofs.Outside.{◌≡◌, ℕ, ℤ, Bool, true, false, not, ◌&&◌, cond, List, [], ◌∷◌, ◌++◌, map, find, slice_get, slice_index_or, Some, None, option_map, Ok, refl, ap, subst, ◌∙◌, arith, eq-eqb, AllByRecursion, ints, Row, plain, Int, Ne, Index, Schema, Table, Insert, Source, agree, differ, clashes, guards, passes, Trees, rowid, automatic, IsGuarded, IsSound, all_has, at_ints, IsDatabase, State, Executes, runs_as, IsKeyedBy, next_key, all-slice_get, all_from_test, all_unmap, all_weaker, none_from_any}
use Rattle.std.specs.Prelude.{◌<ℤ◌}
use Rattle.sqlite_schema.specs.declared.schema.Constraint.TheVariants.{Unique}
use Rattle.statements.specs.Place.{at_of, tree_of, IsOwn}
use Rattle.statements.specs.Rows.{Kept, id_of, stored}
use Rattle.statements.proofs.Meaning.{Means}
use Rattle.statements.proofs.Own.{keyed_next}

-- what an INSERT leaves is a database
pub insert_sound : (old new : State) (text : List ℕ) (params : Row) (at : ℕ) (from : Source) → Means old.now.schema (Insert at from) text → (count : ℕ) → Executes text params old new (Ok count) → IsDatabase new.now
insert_sound old new text params at from m count ran = (runs_as text params old new old.now.schema refl (Insert at from) m.0 m.1 count ran).sound

unequal : (b : Bool) → not (true && b) ≡ true → b ≡ false
unequal true e = absurd (let none : ⊥ = cc in none)
unequal false e = refl

-- no two rows of the table have one key
untied : (s : Schema) (db : Trees) → IsSound s db → (table : Table) → IsOwn s table → (key : List ℕ) → slice_get table.uniques 0 ≡ Some key → slice_index_or table.orders 0 plain ≡ plain
    → AllByRecursion (λ row. clashes plain key (db (tree_of s table.name)) row ≡ false) (db (tree_of s table.name))
untied s db sound table own key unique order =
    let here : ℕ = tree_of s table.name in
    let placed : Table = record table { tree = here } in
    let guard = all-slice_get (IsGuarded s.indexes) s.tables (at_of s table.name) placed own.place.found sound.lists.guarded 0 key unique in
    let index : Index = automatic placed 0 key guard.0 in
    let held = all-slice_get (λ (t : Table). AllByRecursion (λ row. passes Unique s db t row ≡ true) (db t.tree)) s.tables (at_of s table.name) placed own.place.found (sound.obeys.rules Unique) in
    all_weaker (λ row. passes Unique s db placed row ≡ true) (λ row. clashes plain key (db here) row ≡ false)
    (λ row passed.
    let each = all_from_test (λ (i : Index). not (guards i placed && clashes i.order i.columns (db here) row)) s.indexes passed in
    let one = all_has (λ (i : Index). not (guards i placed && clashes i.order i.columns (db here) row) ≡ true) s.indexes index each guard.1 in
    let mine : guards index placed ≡ true = eq-eqb here here refl in
    subst (λ o. clashes o key (db here) row ≡ false) order (unequal _ (subst (λ b. not (b && clashes index.order index.columns (db here) row) ≡ true) mine one)))
    (db here) held

module _ {X : Type 0} (P : X → Type 0) where
  last_of : (xs : List X) (y : X) → AllByRecursion P (xs ++ y ∷ []) → P y
  last_of [] y all = all.0
  last_of (x ∷ xs) y all = last_of xs y all.1

one_false : (a b : Bool) → (a && b) ≡ false → b ≡ true → a ≡ false
one_false true b e h = absurd (let none : ⊥ = cc in none)
one_false false b e h = refl

apart_below : (m n : ℤ) → m <ℤ n → differ (Int m) (Int n) ≡ true
apart_below m n low = at_ints _ Ne m n ∙ grind (arith, ints)

module _ {R : Type 0} (cells : R → Row) (key : List ℕ) where
  -- no row before the last has its key
  before_last : (xs : List (Kept R)) (y : Kept R) → IsKeyedBy id_of (xs ++ y ∷ []) → AllByRecursion (λ x. (agree plain key (stored cells x) key (stored cells y) && differ (rowid (stored cells x)) (rowid (stored cells y))) ≡ false) (xs ++ y ∷ [])
      → AllByRecursion (λ x. agree plain key (stored cells x) key (stored cells y) ≡ false) xs
  before_last [] y keyed all = tt
  before_last (x ∷ xs) y keyed all =
      (one_false _ _ all.0 (apart_below (id_of x) (id_of y) (last_of (λ z. id_of x <ℤ id_of z) xs y keyed.0)), before_last xs y keyed.1 all.1)

  pub none_alike : (table : Table) (old new : State) → IsOwn old.now.schema table → (xs : List (Kept R)) → IsKeyedBy id_of xs → (r : R) → new.now.schema ≡ old.now.schema
      → new.now.trees (tree_of old.now.schema table.name) ≡ map (stored cells) (xs ++ (next_key id_of xs, r) ∷ []) → IsDatabase new.now → slice_get table.uniques 0 ≡ Some key → slice_index_or table.orders 0 plain ≡ plain
      → AllByRecursion (λ x. agree plain key (stored cells x) key (stored cells (next_key id_of xs, r)) ≡ false) xs
  none_alike table old new own xs keyed r same rows sound unique order =
      let here : ℕ = tree_of old.now.schema table.name in
      let y : Kept R = (next_key id_of xs, r) in
      let apart = untied old.now.schema new.now.trees (subst (λ (s : Schema). IsSound s new.now.trees) same sound) table own key unique order in
      let all = subst (λ (l : List Row). AllByRecursion (λ row. clashes plain key l row ≡ false) l) rows apart in
      let last = last_of (λ (x : Kept R). clashes plain key (map (stored cells) (xs ++ y ∷ [])) (stored cells x) ≡ false) xs y (all_unmap (λ row. clashes plain key (map (stored cells) (xs ++ y ∷ [])) row ≡ false) (stored cells) (xs ++ y ∷ []) all) in
      before_last xs y (keyed_next xs r keyed)
      (all_unmap (λ row. (agree plain key row key (stored cells y) && differ (rowid row) (rowid (stored cells y))) ≡ false) (stored cells) (xs ++ y ∷ [])
      (none_from_any (λ row. agree plain key row key (stored cells y) && differ (rowid row) (rowid (stored cells y))) (map (stored cells) (xs ++ y ∷ [])) last))

-- none is found where no row passes
pub none_found : {X Y : Type 0} (p : X → Bool) (f : X → Y) (xs : List X) → AllByRecursion (λ x. p x ≡ false) xs → option_map f (find p xs) ≡ None
none_found p f [] all = refl
none_found p f (x ∷ xs) all = ap (λ (b : Bool). option_map f (cond b (Some x) (find p xs))) all.0 ∙ none_found p f xs all.1
