-- A schema that got one more table, and what stands in it.
use Rattle.statements.proofs.Outside.{◌≡◌, ◌≢◌, ℕ, zero, suc, ◌+◌, ◌<◌, ◌≤◌, max, Bool, true, false, cond, List, [], ◌∷◌, ◌++◌, length, find, fold, slice_get, Some, None, option_map, unwrap_or, refl, sym, ap, ◌∙◌, subst, arith, AllByRecursion, position_from, nat_tests, IsAscending, Schema, Table, Reference, Index, same_name, table_named, next_tree, past_views, KeepsRows, same_itself, most_from, Database, all-append, all_weaker, all-slice_get}
use Rattle.std.specs.Prelude.{◌==◌}
use Rattle.std.proofs.lemmas.Bool.{eq-eqb}
use Rattle.statements.specs.Place.{at_of, tree_of, StandsAt, IsOwn}
use Rattle.statements.specs.Tables.{StoredTable, HasRows, HoldsAll, tables_in}
use Rattle.statements.specs.Making.{bare_table, KeepsTables, sequence_name, IsNotNamed, NamesNoOther}

-- the table stands behind those that were there, with the next tree and no row; what stands behind it has a later tree
pub record Grown (table : Table) (old new : Database) : Type 0 where
  pub more : List Table
  pub tables : new.schema.tables ≡ old.schema.tables ++ (record table { tree = next_tree old.schema } ∷ more)
  pub above : AllByRecursion (λ (t : Table). next_tree old.schema < t.tree) more
  pub empty : new.trees (next_tree old.schema) ≡ []
  pub others : KeepsRows old.schema.tables old.trees new.trees
  pub free : table_named old.schema table.name ≡ None
  pub low : next_tree old.schema < 65536
  pub engine : AllByRecursion (λ (t : Table). t.name ≡ sequence_name) more

module _ {X : Type 0} where
  position_front : (p : X → Bool) (n i : ℕ) (xs ys : List X) → position_from p n xs ≡ Some i → position_from p n (xs ++ ys) ≡ Some i
  position_front p n i [] ys h = absurd (cc)
  position_front p n i (x ∷ xs) ys h = go (p x) h (position_front p (n + 1) i xs ys)
    where
      go : (b : Bool) → cond b (Some n) (position_from p (n + 1) xs) ≡ Some i → (position_from p (n + 1) xs ≡ Some i → position_from p (n + 1) (xs ++ ys) ≡ Some i)
          → cond b (Some n) (position_from p (n + 1) (xs ++ ys)) ≡ Some i
      go true e more = e
      go false e more = more e

  position_behind : (p : X → Bool) (n : ℕ) (xs : List X) (y : X) (ys : List X) → position_from p n xs ≡ None → p y ≡ true → position_from p n (xs ++ y ∷ ys) ≡ Some (n + length xs)
  position_behind p n [] y ys none is = rw is (ap Some (omega arith))
  position_behind p n (x ∷ xs) y ys none is = go (p x) none (λ h. position_behind p (n + 1) xs y ys h is)
    where
      go : (b : Bool) → cond b (Some n) (position_from p (n + 1) xs) ≡ None → (position_from p (n + 1) xs ≡ None → position_from p (n + 1) (xs ++ y ∷ ys) ≡ Some (n + 1 + length xs))
          → cond b (Some n) (position_from p (n + 1) (xs ++ y ∷ ys)) ≡ Some (n + length (x ∷ xs))
      go true e more = absurd (cc)
      go false e more = more e ∙ ap Some (omega arith)

  position_none : (p : X → Bool) (n : ℕ) (xs ys : List X) → position_from p n xs ≡ None → AllByRecursion (λ y. p y ≡ false) ys → position_from p n (xs ++ ys) ≡ None
  position_none p n [] [] h all = refl
  position_none p n [] (y ∷ ys) h all = rw all.0 (position_none p (n + 1) [] ys refl all.1)
  position_none p n (x ∷ xs) ys h all = go (p x) h (λ e. position_none p (n + 1) xs ys e all)
    where
      go : (b : Bool) → cond b (Some n) (position_from p (n + 1) xs) ≡ None → (position_from p (n + 1) xs ≡ None → position_from p (n + 1) (xs ++ ys) ≡ None) → cond b (Some n) (position_from p (n + 1) (xs ++ ys)) ≡ None
      go true e more = absurd (cc)
      go false e more = more e

  get_front : (xs ys : List X) (i : ℕ) (x : X) → slice_get xs i ≡ Some x → slice_get (xs ++ ys) i ≡ Some x
  get_front [] ys i x h = absurd (cc)
  get_front (y ∷ xs) ys zero x h = h
  get_front (y ∷ xs) ys (suc i) x h = get_front xs ys i x h

  get_behind : (xs : List X) (y : X) (ys : List X) → slice_get (xs ++ y ∷ ys) (length xs) ≡ Some y
  get_behind [] y ys = refl
  get_behind (x ∷ xs) y ys = get_behind xs y ys

  pub find_front : (p : X → Bool) (xs ys : List X) (x : X) → find p xs ≡ Some x → find p (xs ++ ys) ≡ Some x
  find_front p [] ys x h = absurd (cc)
  find_front p (y ∷ xs) ys x h = go (p y) h (find_front p xs ys x)
    where
      go : (b : Bool) → cond b (Some y) (find p xs) ≡ Some x → (find p xs ≡ Some x → find p (xs ++ ys) ≡ Some x) → cond b (Some y) (find p (xs ++ ys)) ≡ Some x
      go true e more = e
      go false e more = more e

  find_behind : (p : X → Bool) (xs : List X) (y : X) (ys : List X) → AllByRecursion (λ x. p x ≡ false) xs → p y ≡ true → find p (xs ++ y ∷ ys) ≡ Some y
  find_behind p [] y ys none is = rw is refl
  find_behind p (x ∷ xs) y ys none is = rw none.0 (find_behind p xs y ys none.1 is)

  all_below : (f : X → ℕ) (n : ℕ) (xs : List X) → AllByRecursion (λ x. f x < fold (λ m y. max m (f y + 1)) n xs) xs
  all_below f n [] = tt
  all_below f n (x ∷ xs) = let more = most_from f (max n (f x + 1)) xs in (omega arith, all_below f (max n (f x + 1)) xs)

plus_none : (n : ℕ) → 0 + n ≡ n
plus_none n = omega arith

-- the next tree is above each table's
pub trees_below : (s : Schema) → AllByRecursion (λ (t : Table). t.tree < next_tree s) s.tables
trees_below s =
    let top = fold (λ n (t : Table). max n (t.tree + 1)) (past_views s) s.tables in
    let rest = most_from (λ (i : Index). i.tree) top s.indexes in
    all_weaker (λ (t : Table). t.tree < top) (λ (t : Table). t.tree < next_tree s) (λ t h. omega arith) s.tables (all_below (λ (t : Table). t.tree) (past_views s) s.tables)

module _ (s : Schema) (name : List ℕ) (table : Table) (at tree : ℕ) (h : StandsAt s name table at tree) where
  pub at_is : at_of s name ≡ at
  at_is = ap (λ o. unwrap_or o 0) h.named

  pub tree_is : tree_of s name ≡ tree
  tree_is = ap (λ n. unwrap_or (option_map (λ (t : Table). t.tree) (slice_get s.tables n)) 0) at_is ∙ ap (λ o. unwrap_or (option_map (λ (t : Table). t.tree) o) 0) h.found

-- a table that stands somewhere, and as which its tree refers, is one of ours
own_at : (s : Schema) (table : Table) (at tree : ℕ) → StandsAt s table.name table at tree → AllByRecursion (λ (t : Table). t.tree ≡ tree → t.references ≡ table.references) s.tables → IsOwn s table
own_at s table at tree h refers = record {
  place = subst (λ n. StandsAt s table.name table n (tree_of s table.name)) (sym (at_is s table.name table at tree h)) (subst (λ n. StandsAt s table.name table at n) (sym (tree_is s table.name table at tree h)) h);
  refers = subst (λ n. AllByRecursion (λ (t : Table). t.tree ≡ n → t.references ≡ table.references) s.tables) (sym (tree_is s table.name table at tree h)) refers;
}

module _ (table : Table) (old new : Database) (g : Grown table old new) where
  abbrev added : Table
  added = record table { tree = next_tree old.schema }

  whole_refers : (tree : ℕ) (refs : List Reference) → AllByRecursion (λ (t : Table). t.tree ≡ tree → t.references ≡ refs) old.schema.tables → AllByRecursion (λ (t : Table). t.tree ≡ tree → t.references ≡ refs) (added ∷ g.more)
      → AllByRecursion (λ (t : Table). t.tree ≡ tree → t.references ≡ refs) new.schema.tables
  whole_refers tree refs h k = subst (AllByRecursion (λ (t : Table). t.tree ≡ tree → t.references ≡ refs)) (sym g.tables) (all-append _ old.schema.tables (added ∷ g.more) h k)

  -- what stands behind has none of the trees up to the next
  later : (tree : ℕ) (refs : List Reference) → tree ≤ next_tree old.schema → AllByRecursion (λ (t : Table). t.tree ≡ tree → t.references ≡ refs) g.more
  later tree refs low = all_weaker (λ (t : Table). next_tree old.schema < t.tree) (λ (t : Table). t.tree ≡ tree → t.references ≡ refs) (λ t high same. absurd (omega arith)) g.more g.above

  module _ (other : Table) (own : IsOwn old.schema other) where
    abbrev at : ℕ
    at = at_of old.schema other.name

    abbrev tree : ℕ
    tree = tree_of old.schema other.name

    stays_at : StandsAt new.schema other.name other at tree
    stays_at = record {
      named = ap (position_from (λ (t : Table). same_name t.name other.name) 0) g.tables ∙ position_front _ 0 at old.schema.tables (added ∷ g.more) own.place.named;
      found = ap (λ l. slice_get l at) g.tables ∙ get_front old.schema.tables (added ∷ g.more) at _ own.place.found;
      treed = ap (find (λ (t : Table). t.tree == tree)) g.tables ∙ find_front _ old.schema.tables (added ∷ g.more) _ own.place.treed;
      low = own.place.low;
      small = own.place.small;
    }

    tree_kept : tree_of new.schema other.name ≡ tree
    tree_kept = tree_is new.schema other.name other at tree stays_at

    tree_below : tree < next_tree old.schema
    tree_below = all-slice_get (λ (t : Table). t.tree < next_tree old.schema) old.schema.tables at _ own.place.found (trees_below old.schema)

    pub own_kept : IsOwn new.schema other
    own_kept =
        let low = tree_below in
        own_at new.schema other at tree stays_at (whole_refers tree other.references own.refers ((λ same. absurd (omega arith)), later tree other.references (omega arith)))

    rows_kept : new.trees tree ≡ old.trees tree
    rows_kept = all-slice_get (λ (t : Table). new.trees t.tree ≡ old.trees t.tree) old.schema.tables at _ own.place.found g.others

  apart_from : (t : Table) → t.tree < next_tree old.schema → (t.tree == next_tree old.schema) ≡ false
  apart_from t low = grind (arith, nat_tests)

  added_at : StandsAt new.schema table.name table (length old.schema.tables) (next_tree old.schema)
  added_at = record {
    named = ap (position_from (λ (t : Table). same_name t.name table.name) 0) g.tables ∙ position_behind _ 0 old.schema.tables added g.more g.free (same_itself table.name) ∙ ap Some (plus_none (length old.schema.tables));
    found = ap (λ l. slice_get l (length old.schema.tables)) g.tables ∙ get_behind old.schema.tables added g.more;
    treed = ap (find (λ (t : Table). t.tree == next_tree old.schema)) g.tables
        ∙ find_behind _ old.schema.tables added g.more (all_weaker (λ (t : Table). t.tree < next_tree old.schema) (λ (t : Table). (t.tree == next_tree old.schema) ≡ false) apart_from old.schema.tables (trees_below old.schema))
        (eq-eqb (next_tree old.schema) _ refl);
    low = let l = g.low in grind (arith, nat_tests);
    small = let l = g.low in grind (arith, nat_tests);
  }

  own_added : IsOwn new.schema table
  own_added = own_at new.schema table _ _ added_at
      (whole_refers (next_tree old.schema) table.references
      (all_weaker (λ (t : Table). t.tree < next_tree old.schema) (λ (t : Table). t.tree ≡ next_tree old.schema → t.references ≡ table.references) (λ t low same. absurd (omega arith)) old.schema.tables (trees_below old.schema))
      ((λ _. refl), later (next_tree old.schema) table.references (omega arith)))

  tree_added : tree_of new.schema table.name ≡ next_tree old.schema
  tree_added = tree_is new.schema table.name table _ _ added_at

  own_all : (xs : List StoredTable) → AllByRecursion (IsOwn old.schema) (tables_in xs) → AllByRecursion (IsOwn new.schema) (tables_in (xs ++ bare_table table ∷ []))
  own_all [] h = (own_added, tt)
  own_all (x ∷ xs) h = (own_kept x.table h.0, own_all xs h.1)

  rows_all : (xs : List StoredTable) → AllByRecursion (IsOwn old.schema) (tables_in xs) → AllByRecursion (HasRows old) xs → AllByRecursion (HasRows new) (xs ++ bare_table table ∷ [])
  rows_all [] h k = (record { rows = ap new.trees tree_added ∙ g.empty; keyed = tt }, tt)
  rows_all (x ∷ xs) h k = (record { rows = ap new.trees (tree_kept x.table h.0) ∙ rows_kept x.table h.0 ∙ k.0.rows; keyed = k.0.keyed }, rows_all xs h.1 k.1)

  apart_one : (t : Table) → IsOwn old.schema t → (xs : List StoredTable) → AllByRecursion (IsOwn old.schema) (tables_in xs) → AllByRecursion (λ (b : Table). tree_of old.schema t.name ≢ tree_of old.schema b.name) (tables_in xs)
      → AllByRecursion (λ (b : Table). tree_of new.schema t.name ≢ tree_of new.schema b.name) (tables_in (xs ++ bare_table table ∷ []))
  apart_one t own [] h k = let a = tree_kept t own in let b = tree_added in let c = tree_below t own in ((λ same. absurd (omega (arith, a, b, c, same))), tt)
  apart_one t own (u ∷ xs) h k = let a = tree_kept t own in let b = tree_kept u.table h.0 in let c = k.0 in ((λ same. c (omega (arith, a, b, same))), apart_one t own xs h.1 k.1)

  apart_all : (xs : List StoredTable) → AllByRecursion (IsOwn old.schema) (tables_in xs) → IsAscending (λ (a b : Table). tree_of old.schema a.name ≢ tree_of old.schema b.name) (tables_in xs)
      → IsAscending (λ (a b : Table). tree_of new.schema a.name ≢ tree_of new.schema b.name) (tables_in (xs ++ bare_table table ∷ []))
  apart_all [] h k = (tt, tt)
  apart_all (x ∷ xs) h k = (apart_one x.table h.0 xs h.1 k.0, apart_all xs h.1 k.1)

  pub made_grown : (xs : List StoredTable) → HoldsAll old xs → HoldsAll new (xs ++ bare_table table ∷ [])
  made_grown xs m = record { own = record { own = own_all xs m.own.own; apart = apart_all xs m.own.own m.own.apart }; rows = rows_all xs m.own.own m.rows }

  -- the tree is none of a table that was there
  pub added_apart : AllByRecursion (λ (t : Table). t.tree ≢ tree_of new.schema table.name) old.schema.tables
  added_apart =
      all_weaker (λ (t : Table). t.tree < next_tree old.schema) (λ (t : Table). t.tree ≢ tree_of new.schema table.name) (λ t low same. let is = tree_added in absurd (omega arith)) old.schema.tables (trees_below old.schema)

  pub names_added : NamesNoOther (table ∷ []) old new
  names_added name engine apart none =
      ap (position_from (λ (t : Table). same_name t.name name) 0) g.tables
      ∙ position_none (λ (t : Table). same_name t.name name) 0 old.schema.tables (added ∷ g.more) none
      (apart.0, all_weaker (λ (t : Table). t.name ≡ sequence_name) (IsNotNamed name) (λ t is. ap (λ n. same_name n name) is ∙ engine) g.more g.engine)

-- a table of ours keeps its tree where the tables that were there are kept
pub tree_stays : (old new : Database) → KeepsTables old new → (t : Table) → IsOwn old.schema t → tree_of new.schema t.name ≡ tree_of old.schema t.name
tree_stays old new k t own =
    let at = at_of old.schema t.name in
    let named : table_named new.schema t.name ≡ Some at = ap (position_from (λ (u : Table). same_name u.name t.name) 0) k.tables ∙ position_front _ 0 at old.schema.tables k.more own.place.named in
    let found : slice_get new.schema.tables at ≡ Some (record t { tree = tree_of old.schema t.name }) = ap (λ l. slice_get l at) k.tables ∙ get_front old.schema.tables k.more at _ own.place.found in
    ap (λ o. unwrap_or (option_map (λ (u : Table). u.tree) (slice_get new.schema.tables (unwrap_or o 0))) 0) named ∙ ap (λ o. unwrap_or (option_map (λ (u : Table). u.tree) o) 0) found

pub at_stays : (old new : Database) → KeepsTables old new → (t : Table) → IsOwn old.schema t → at_of new.schema t.name ≡ at_of old.schema t.name
at_stays old new k t own =
    let at = at_of old.schema t.name in
    let named : table_named new.schema t.name ≡ Some at = ap (position_from (λ (u : Table). same_name u.name t.name) 0) k.tables ∙ position_front _ 0 at old.schema.tables k.more own.place.named in
    ap (λ o. unwrap_or o 0) named
