-- What a write to one of our tables leaves, whatever else stands in the database.
use Rattle.statements.proofs.Outside.{inl, inr, ◌≡◌, ◌≢◌, ◌^◌, ℕ, suc, ℤ, Bool, true, false, arith, List, [], ◌∷◌, ◌++◌, ◌/◌, map, filter, find, drop, length, not, ◌==◌, slice_get, option_map, is_some, None, Ok, refl, sym, ap, ap₂, ◌∙◌, subst, AllByRecursion, list_all, ne_eqb, length-map, length_permutation, Value, Null, Int, Row, Trees, unary, Term, holds, eval_all, Query, inner, end, page, overlay, Reference, Schema, Table, Enforced, Insert, Update, Delete, Source, IsAnswer, map-map, map_same, all-slice_get, all_of, all_weaker, cast, cast_all, cast_row, Chosen, Given, ids_of, Edit, Applies, edited, edit_of, taken_by, Writes, pairs, value_rows, stamped, one_step, State, Executes, IsKeyedBy, insert_by, next_key, update_where, delete_where, slice_get-filter, insert_next, is_some-map, IsKeyedBy-insert_by}
use Rattle.std.specs.Prelude.{nat_le}
use Rattle.sqlite_schema.specs.declared.schema.Kind.TheVariants.{Integer}
use Rattle.sqlite_schema.specs.declared.command.Source.TheVariants.{Values, Query as Queried}
use Rattle.statements.specs.Changes.{with_all}
use Rattle.sqlite_rules.proofs.ActionLemmas.{no_works}
use Rattle.statements.specs.Place.{at_of, tree_of, is_passive, RefersPassively, IsPassive, IsOwn}
use Rattle.statements.specs.Rows.{Kept, id_of, stored}
use Rattle.statements.proofs.Meaning.{Means}
use Rattle.statements.proofs.Lead.{GoesTo, IsIdle, write_keeps, step_keeps, elsewhere_idle, applied_there, follower_keeps}
use Rattle.statements.proofs.Follows.{Follows, IsSteady, there}
use Rattle.statements.proofs.Writes.{plain_program, updates, deletes, inserts}
use Rattle.statements.proofs.Edits.{all_shown, updated_rows, deleted_rows, inserted_rows, inserted_all, put_rows}

-- each table whose references are passive, but the one with this tree, has the rows that it had
abbrev pub Leaves : Schema → ℕ → Trees → Trees → Type 0
Leaves s tree old new = (other : Table) → IsOwn s other → RefersPassively other → tree_of s other.name ≢ tree → new (tree_of s other.name) ≡ old (tree_of s other.name)

-- and so has each that follows one with another tree
abbrev pub LeavesFollowers : Schema → ℕ → Trees → Trees → Type 0
LeavesFollowers s tree old new =
    (parent other : Table) → IsOwn s other → Follows s parent other → tree_of s parent.name ≢ tree → tree_of s other.name ≢ tree → new (tree_of s other.name) ≡ old (tree_of s other.name)

-- a write to the table at this tree, and what its own rows are then
pub record Leads (s : Schema) (tree : ℕ) (left : List Row) (old new : Trees) : Type 0 where
  pub rows : new tree ≡ left
  pub others : Leaves s tree old new
  pub followers : LeavesFollowers s tree old new

pub stored_tree : (db : Trees) (tree : ℕ) → nat_le (2 ^ 31) tree ≡ false → overlay db [] tree ≡ db tree
stored_tree db tree low = rw low refl

either : (b : Bool) (v : Value) → Rattle.std.proofs.Common.cond b v v ≡ v
either true v = refl
either false v = refl

pub cast_int : (n : ℤ) → cast Integer (Int n) ≡ Int n
unfolding unary
cast_int n = either _ (Int n)

pub cast_null : cast Integer Null ≡ Null
unfolding unary
cast_null = either _ Null

module _ (s : Schema) (table : Table) (own : IsOwn s table) (steady : IsSteady s table) where
  abbrev tree : ℕ
  tree = tree_of s table.name

  abbrev placed : Table
  placed = record table { tree = tree }

  -- what the write's own step leaves in the table itself
  mine : (db next : Trees) (edit : Edit) → edit.table.tree ≡ tree → IsSteady s table → Writes s Enforced db edit (Ok next) → (mid : Trees) × Applies s Enforced db edit mid × (next tree ≡ mid tree)
  mine db next edit on (inl passive) w = write_keeps s Enforced table (at_of s table.name) tree own.place.found (there IsPassive s table own passive) db next edit w
  mine db next edit on (inr (parent, follows, apart)) w =
      let bare = there (GoesTo s (tree_of s parent.name)) s table own follows.goes in
      let firm = there IsPassive s parent follows.own follows.passive in
      step_keeps s Enforced tree (tree_of s parent.name) table (at_of s table.name) own.place.found bare firm db next edit
      (λ rows. elsewhere_idle s Enforced tree (tree_of s parent.name) rows table (at_of s table.name) own.place.found bare firm edit.table.tree _ _ (λ same. apart (sym same ∙ on))) w

  leaves_follower : (db next : Trees) (edit : Edit) → edit.table.tree ≡ tree → Writes s Enforced db edit (Ok next) → LeavesFollowers s tree db next
  leaves_follower db next edit on w parent other is follows free apart =
      let here = tree_of s other.name in
      let bare = there (GoesTo s (tree_of s parent.name)) s other is follows.goes in
      let firm = there IsPassive s parent follows.own follows.passive in
      follower_keeps s Enforced here (tree_of s parent.name) (db here) other (at_of s other.name) is.place.found bare firm db next edit refl (λ same. apart (same ∙ on))
      (elsewhere_idle s Enforced here (tree_of s parent.name) (db here) other (at_of s other.name) is.place.found bare firm edit.table.tree _ _ (λ same. free (sym same ∙ on))) w

  pub written : (db next : Trees) (edit : Edit) → edit.table ≡ placed → Writes s Enforced db edit (Ok next) → Leads s tree (edited db edit) db next
  written db next edit on w =
      let tree_is : edit.table.tree ≡ tree = ap (λ (t : Table). t.tree) on in
      let its = mine db next edit tree_is steady w in
      record {
        rows = its.2 ∙ subst (λ t. its.0 t ≡ edited db edit) tree_is its.1.rows;
        others = λ other is passive apart.
            let keeps = write_keeps s Enforced other (at_of s other.name) (tree_of s other.name) is.place.found (there IsPassive s other is passive) db next edit w in
            keeps.2 ∙ applied_there s Enforced other (at_of s other.name) (tree_of s other.name) is.place.found db keeps.0 edit keeps.1 (λ same. apart (same ∙ tree_is));
        followers = leaves_follower db next edit tree_is w;
      }

module _ {R : Type 0} (cells : R → Row) (table : Table) (casts : (r : R) → cast_all table.columns (cells r) ≡ cells r) (old new : State) (own : IsOwn old.now.schema table) (steady : IsSteady old.now.schema table)
    (xs : List (Kept R)) (held : old.now.trees (tree_of old.now.schema table.name) ≡ map (stored cells) xs) (keyed : IsKeyedBy id_of xs) (text : List ℕ) (params : Row) (count : ℕ)
    (ran : Executes text params old new (Ok count)) where
  abbrev s : Schema
  s = old.now.schema

  abbrev here : ℕ
  here = tree_of s table.name

  abbrev seen : overlay old.now.trees [] here ≡ map (stored cells) xs
  seen = stored_tree old.now.trees here own.place.low ∙ held

  stored_casts : (x : Kept R) → cast_row table (stored cells x) ≡ stored cells x
  stored_casts x = ap₂ ◌∷◌ (cast_int (id_of x)) (casts x.1)

  -- the write has left these rows in the table, and the other tables of ours as they were
  abbrev pub Left : List (Kept R) → Type 0
  Left ys = Leads s here (map (stored cells) ys) old.now.trees new.now.trees × (new.now.schema ≡ s)

  pub update_own : (q : Query) → Means s (Update (at_of s table.name) (plain_program q)) text → q.from ≡ inner here end → q.group ≡ None → q.distinct ≡ false → ((rows : List Row) → page q params rows ≡ rows)
      → (p : Kept R → Bool) → ((x : Kept R) → list_all (holds (params ∷ stored cells x ∷ [])) q.filter ≡ p x)
      → (f : Kept R → Kept R) → ((x : Kept R) → id_of (f x) ≡ id_of x) → ((x : Kept R) → eval_all q.project (params ∷ stored cells x ∷ []) ≡ Int (id_of x) ∷ stored cells (f x)) → Left (update_where p f xs)
  update_own q means from none all whole p tests f keeps shows =
      let made = updates old new text params (at_of s table.name) (record table { tree = here }) own.place.found q means count ran in
      let show = λ (x : Kept R). eval_all q.project (params ∷ stored cells x ∷ []) in
      let some = all_shown cells (overlay old.now.trees []) here xs seen keyed q from none all params p tests whole made.0 made.1 in
      let rows = updated_rows cells old.now.trees here xs held keyed (record table { tree = here }) refl p f keeps show (λ x. ap Rattle.sqlite_trees.specs.Tree.rowid (shows x))
      (λ x. ap (λ r. cast_row table (drop 1 r)) (shows x) ∙ stored_casts (f x)) made.0 some.0 some.1 some.2 in
      let went = written s table own steady old.now.trees new.now.trees _ refl made.2 in
      (record { rows = went.rows ∙ rows; others = went.others; followers = went.followers }, made.3)

  -- how many rows an UPDATE writes
  pub count_updated : (q : Query) → Means s (Update (at_of s table.name) (plain_program q)) text → q.from ≡ inner here end → q.group ≡ None → q.distinct ≡ false → ((rows : List Row) → page q params rows ≡ rows)
      → (p : Kept R → Bool) → ((x : Kept R) → list_all (holds (params ∷ stored cells x ∷ [])) q.filter ≡ p x) → count ≡ length (filter p xs)
  count_updated q means from none all whole p tests =
      let made = updates old new text params (at_of s table.name) (record table { tree = here }) own.place.found q means count ran in
      let some = all_shown cells (overlay old.now.trees []) here xs seen keyed q from none all params p tests whole made.0 made.1 in
      made.4 ∙ ap length some.2 ∙ length-map some.0 _ ∙ length_permutation (filter p xs) some.0 some.1

  -- what an UPDATE of these rows writes
  abbrev new_rows : List Row → Edit
  new_rows rows = edit_of old.now.trees (record table { tree = here }) (ids_of rows) Given 1 rows

  update_idle : (other : Table) → IsOwn s other → AllByRecursion (λ (ref : Reference). is_passive ref.on_update ≡ true) other.references → (rows : List Row)
      → AllByRecursion (λ (t : Table). t.tree ≡ tree_of s other.name
      → AllByRecursion (IsIdle s (old.now.trees (tree_of s other.name)) here (length (new_rows rows).news == 0) (pairs (taken_by old.now.trees (new_rows rows)) (new_rows rows).news)) t.references) s.tables
  update_idle other is firm [] =
      there (IsIdle s (old.now.trees (tree_of s other.name)) here true []) s other is (all_of (IsIdle s (old.now.trees (tree_of s other.name)) here true []) (λ ref. inr (λ key reported. inr (λ r has. refl))) other.references)
  update_idle other is firm (row ∷ rows) =
      let moves = pairs (taken_by old.now.trees (new_rows (row ∷ rows))) (new_rows (row ∷ rows)).news in
      let some : (length (new_rows (row ∷ rows)).news == 0) ≡ false = ne_eqb _ _ (omega arith) in
      subst (λ b. AllByRecursion (λ (t : Table). t.tree ≡ tree_of s other.name → AllByRecursion (IsIdle s (old.now.trees (tree_of s other.name)) here b moves) t.references) s.tables) (sym some)
      (there (IsIdle s (old.now.trees (tree_of s other.name)) here false moves) s other is
      (all_weaker (λ (ref : Reference). is_passive ref.on_update ≡ true) (IsIdle s (old.now.trees (tree_of s other.name)) here false moves) (λ ref passive. inl passive) other.references firm))

  -- an UPDATE takes no row away: a table that follows this one keeps its rows, where its references are passive if a row gets another key
  pub update_leaves : (q : Query) → Means s (Update (at_of s table.name) (plain_program q)) text → (other : Table) → IsOwn s other → Follows s table other
      → AllByRecursion (λ (ref : Reference). is_passive ref.on_update ≡ true) other.references → tree_of s other.name ≢ here → new.now.trees (tree_of s other.name) ≡ old.now.trees (tree_of s other.name)
  update_leaves q means other is follows firm apart =
      let made = updates old new text params (at_of s table.name) (record table { tree = here }) own.place.found q means count ran in
      follower_keeps s Enforced (tree_of s other.name) here (old.now.trees (tree_of s other.name)) other (at_of s other.name) is.place.found (there (GoesTo s here) s other is follows.goes) (there IsPassive s table own follows.passive)
      old.now.trees new.now.trees (new_rows made.0) refl apart (update_idle other is firm made.0) made.2

  pub delete_own : (q : Query) → Means s (Delete (at_of s table.name) (plain_program q)) text → q.from ≡ inner here end → q.group ≡ None → q.distinct ≡ false → ((rows : List Row) → page q params rows ≡ rows)
      → (p : Kept R → Bool) → ((x : Kept R) → list_all (holds (params ∷ stored cells x ∷ [])) q.filter ≡ p x)
      → ((x : Kept R) → eval_all q.project (params ∷ stored cells x ∷ []) ≡ Int (id_of x) ∷ []) → Left (delete_where p xs)
  delete_own q means from none all whole p tests shows =
      let made = deletes old new text params (at_of s table.name) (record table { tree = here }) own.place.found q means count ran in
      let show = λ (x : Kept R). eval_all q.project (params ∷ stored cells x ∷ []) in
      let some = all_shown cells (overlay old.now.trees []) here xs seen keyed q from none all params p tests whole made.0 made.1 in
      let rows = deleted_rows cells old.now.trees here xs held keyed (record table { tree = here }) refl p show (λ x. ap Rattle.sqlite_trees.specs.Tree.rowid (shows x)) made.0 some.0 some.1 some.2 in
      let went = written s table own steady old.now.trees new.now.trees _ refl made.2 in
      (record { rows = went.rows ∙ rows; others = went.others; followers = went.followers }, made.3)

  -- how many rows a DELETE removes
  pub count_deleted : (q : Query) → Means s (Delete (at_of s table.name) (plain_program q)) text → q.from ≡ inner here end → q.group ≡ None → q.distinct ≡ false → ((rows : List Row) → page q params rows ≡ rows)
      → (p : Kept R → Bool) → ((x : Kept R) → list_all (holds (params ∷ stored cells x ∷ [])) q.filter ≡ p x) → count ≡ length (filter p xs)
  count_deleted q means from none all whole p tests =
      let made = deletes old new text params (at_of s table.name) (record table { tree = here }) own.place.found q means count ran in
      let some = all_shown cells (overlay old.now.trees []) here xs seen keyed q from none all params p tests whole made.0 made.1 in
      made.4 ∙ ap length some.2 ∙ length-map some.0 _ ∙ length_permutation (filter p xs) some.0 some.1

  pub insert_own : (terms : List Term) (width : ℕ) → Means s (Insert (at_of s table.name) (Values terms width)) text → table.is_counted ≡ false → stamped table params ≡ params
      → (new_row : R) → value_rows params width (length terms / width) terms ≡ (Null ∷ cells new_row) ∷ [] → Left (xs ++ (next_key id_of xs, new_row) ∷ [])
  insert_own terms width means uncounted unstamped new_row given =
      let made = inserts old new text params (at_of s table.name) (record table { tree = here }) own.place.found (Values terms width) uncounted unstamped means count ran in
      let went = written s table own steady old.now.trees new.now.trees _ refl made.2 in
      let one : made.0 ≡ (Null ∷ cells new_row) ∷ [] = made.1.1 ∙ given in
      let rows = inserted_rows cells old.now.trees here xs held keyed (record table { tree = here }) refl (Null ∷ cells new_row) new_row (ap₂ ◌∷◌ cast_null (casts new_row)) in
      (record { rows = went.rows ∙ ap (λ l. edited old.now.trees (edit_of old.now.trees (record table { tree = here }) [] Chosen 0 l)) one ∙ rows; others = went.others; followers = went.followers }, made.3)

  pub put_own : (terms : List Term) (width : ℕ) → Means s (Insert (at_of s table.name) (Values terms width)) text → table.is_counted ≡ false → stamped table params ≡ params
      → (new_row : Kept R) → value_rows params width (length terms / width) terms ≡ stored cells new_row ∷ [] → Left (insert_by id_of xs new_row)
  put_own terms width means uncounted unstamped new_row given =
      let made = inserts old new text params (at_of s table.name) (record table { tree = here }) own.place.found (Values terms width) uncounted unstamped means count ran in
      let went = written s table own steady old.now.trees new.now.trees _ refl made.2 in
      let one : made.0 ≡ stored cells new_row ∷ [] = made.1.1 ∙ given in
      let rows = put_rows cells old.now.trees here xs held keyed (record table { tree = here }) refl (stored cells new_row) new_row (stored_casts new_row) in
      (record { rows = went.rows ∙ ap (λ l. edited old.now.trees (edit_of old.now.trees (record table { tree = here }) [] Chosen 0 l)) one ∙ rows; others = went.others; followers = went.followers }, made.3)

-- an INSERT of what a query over another table of ours answers
module _ {R Q : Type 0} (cells : R → Row) (table : Table) (casts : (r : R) → cast_all table.columns (cells r) ≡ cells r) (old new : State) (own : IsOwn old.now.schema table) (steady : IsSteady old.now.schema table)
    (xs : List (Kept R)) (held : old.now.trees (tree_of old.now.schema table.name) ≡ map (stored cells) xs) (keyed : IsKeyedBy id_of xs) (text : List ℕ) (params : Row) (count : ℕ)
    (ran : Executes text params old new (Ok count)) where
  pub fill_own : (q : Query) → Means old.now.schema (Insert (at_of old.now.schema table.name) (Queried (plain_program q))) text → table.is_counted ≡ false → stamped table params ≡ params
      → (f : Kept Q → R) (ys : List (Kept Q)) → ((rows : List Row) → IsAnswer q (overlay old.now.trees []) params rows → rows ≡ map (λ y. Null ∷ cells (f y)) ys)
      → Left cells table casts old new own steady xs held keyed text params count ran (with_all (map f ys) xs)
  fill_own q means uncounted unstamped f ys answers =
      let here = tree_of old.now.schema table.name in
      let made = inserts old new text params (at_of old.now.schema table.name) (record table { tree = here }) own.place.found (Queried (plain_program q)) uncounted unstamped means count ran in
      let went = written old.now.schema table own steady old.now.trees new.now.trees _ refl made.2 in
      let sources = answers made.0 (made.1.answer Null) in
      let cast : map (λ s. cast_row (record table { tree = here }) (drop 0 s)) made.0 ≡ map (λ r. Null ∷ cells r) (map f ys) =
      ap (map (λ s. cast_row (record table { tree = here }) (drop 0 s))) sources ∙ map-map _ (λ y. Null ∷ cells (f y)) ys ∙ map_same _ (λ y. Null ∷ cells (f y)) (λ y. ap₂ ◌∷◌ cast_null (casts (f y))) ys
      ∙ sym (map-map (λ r. Null ∷ cells r) f ys) in
      let rows = inserted_all cells old.now.trees here xs held keyed (record table { tree = here }) refl made.0 (map f ys) cast in
      (record { rows = went.rows ∙ rows; others = went.others; followers = went.followers }, made.3)

-- an INSERT sets nothing off, so that each other table keeps its rows, also those of others
pub insert_others : (table : Table) (old new : State) → IsOwn old.now.schema table → (text : List ℕ) (params : Row) (count : ℕ) → Executes text params old new (Ok count) → (from : Source)
    → Means old.now.schema (Insert (at_of old.now.schema table.name) from) text → table.is_counted ≡ false → stamped table params ≡ params
    → (new.now.schema ≡ old.now.schema) × AllByRecursion (λ (t : Table). t.tree ≢ tree_of old.now.schema table.name → new.now.trees t.tree ≡ old.now.trees t.tree) old.now.schema.tables
insert_others table old new own text params count ran from means uncounted unstamped =
    let here = tree_of old.now.schema table.name in
    let made = inserts old new text params (at_of old.now.schema table.name) (record table { tree = here }) own.place.found from uncounted unstamped means count ran in
    (made.3, (one_step old.now.schema Enforced old.now.trees new.now.trees _ (no_works old.now.schema Enforced 0 here _) made.2).tables)

-- so does each other one of ours
pub other_keeps : (s : Schema) (tree : ℕ) (old new : Trees) (other : Table) → IsOwn s other → AllByRecursion (λ (t : Table). t.tree ≢ tree → new t.tree ≡ old t.tree) s.tables → tree_of s other.name ≢ tree
    → new (tree_of s other.name) ≡ old (tree_of s other.name)
other_keeps s tree old new other own all apart = all-slice_get (λ (t : Table). t.tree ≢ tree → new t.tree ≡ old t.tree) s.tables (at_of s other.name) _ own.place.found all apart

-- a new row keeps the rowids rising
pub keyed_next : {R : Type 0} (xs : List (Kept R)) (r : R) → IsKeyedBy id_of xs → IsKeyedBy id_of (xs ++ (next_key id_of xs, r) ∷ [])
keyed_next xs r keyed = subst (IsKeyedBy id_of) (insert_next id_of xs (next_key id_of xs, r) keyed refl) (IsKeyedBy-insert_by id_of xs (next_key id_of xs, r) keyed)

has_first : {X : Type 0} (xs : List X) → not (length xs == 0) ≡ is_some (slice_get xs 0)
has_first [] = refl
has_first (x ∷ xs) = let some : (suc (length xs) == 0) ≡ false = ne_eqb _ _ (omega arith) in rw some refl

-- rows pass exactly if there is a first that does
pub first_if_any : {X Y : Type 0} (p : X → Bool) (f : X → Y) (xs : List X) → not (length (filter p xs) == 0) ≡ is_some (option_map f (find p xs))
first_if_any p f xs = has_first (filter p xs) ∙ ap is_some (slice_get-filter p xs) ∙ sym (is_some-map f (find p xs))
