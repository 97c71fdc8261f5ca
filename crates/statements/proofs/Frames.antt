-- A database holds the rows of our tables after one of the tables has got other rows.
use Rattle.statements.proofs.Outside.{◌≡◌, ◌≢◌, ℕ, zero, suc, ◌+◌, ◌/◌, ◌<◌, Bool, true, false, cond, List, [], ◌∷◌, ◌++◌, map, take, length, slice_get, Option, Some, None, Ok, option_map, arith, refl, sym, ap, ◌∙◌, subst, AllByRecursion, list_all, slice_get-map, Null, Int, Row, Term, holds, eval_all, cast_all, Schema, Table, Command, Insert, Update, Delete, Values, IsKeyedBy, next_key, update_where, delete_where, IsKeyedBy-update_where, IsKeyedBy-delete_where, all_weaker, all-slice_get, Database, value_rows, stamped, State, Executes, slice_get-take}
use Rattle.std.specs.Prelude.{◌==◌}
use Rattle.statements.specs.Place.{tree_of, StandsAt, IsOwn, AreOwn}
use Rattle.statements.specs.Rows.{Kept, id_of, stored}
use Rattle.statements.specs.declared.making.TheConstants.{SCHEMA_VERSION}
use Rattle.statements.specs.Tables.{count_in, Tables, Holds, HoldsAll, HoldsIn, HasRows, StoredTable, stored_tables, schema_tables, tables_in, our_tables, rowid_of}
use Rattle.statements.specs.Steps.{LeavesBeside, LeavesForeign}
use Rattle.statements.specs.Inner.Making.{Moved}
use Rattle.statements.proofs.Held.{Ours, IsHeld, held, followed, our_follow, with_rows, rows_keyed, holds_all, tables_taken, own_in, apart_both}
use Rattle.statements.proofs.Follows.{IsFollowing, AllFollow, follows_by}
use Rattle.statements.proofs.Meaning.{Means}
use Rattle.statements.proofs.Writes.{plain_program}
use Rattle.statements.proofs.Commands.{update_query, delete_query}
use Rattle.statements.proofs.Own.{Leads, update_own, delete_own, insert_own, insert_others, other_keeps, keyed_next}

same_tables : (n : ℕ) (rows : List Row) (xs : List StoredTable) → tables_in (with_rows n rows xs) ≡ tables_in xs
same_tables n rows [] = refl
same_tables zero rows (x ∷ xs) = refl
same_tables (suc n) rows (x ∷ xs) = ap (λ l. x.table ∷ l) (same_tables n rows xs)

rows_taken : (n k : ℕ) (rows : List Row) (xs : List StoredTable) → with_rows n rows (take k xs) ≡ take k (with_rows n rows xs)
rows_taken n zero rows xs = refl
rows_taken n (suc k) rows [] = refl
rows_taken zero (suc k) rows (x ∷ xs) = refl
rows_taken (suc n) (suc k) rows (x ∷ xs) = ap (λ l. x ∷ l) (rows_taken n k rows xs)

-- those of ours that follow the one at a place
abbrev pub followers : ℕ → List Table → List (Option ℕ) → List Table
followers n [] os = []
followers n (x ∷ xs) [] = []
followers n (x ∷ xs) (None ∷ os) = followers n xs os
followers n (x ∷ xs) (Some m ∷ os) = cond (m == n) (x ∷ followers n xs os) (followers n xs os)

all_followers : (P : Table → Type 0) (n : ℕ) (xs : List Table) (os : List (Option ℕ)) → AllByRecursion P xs → AllByRecursion P (followers n xs os)
all_followers P n [] os all = tt
all_followers P n (x ∷ xs) [] all = tt
all_followers P n (x ∷ xs) (None ∷ os) all = all_followers P n xs os all.1
all_followers P n (x ∷ xs) (Some m ∷ os) all = by_test (m == n) (all_followers P n xs os all.1)
  where
    by_test : (b : Bool) → AllByRecursion P (followers n xs os) → AllByRecursion P (cond b (x ∷ followers n xs os) (followers n xs os))
    by_test true rest = (all.0, rest)
    by_test false rest = rest

-- the database holds these rows of our tables, and what is not ours is left
abbrev pub Turns : Database → Database → Tables → Type 0
Turns old new u = Holds new u × LeavesForeign old new

-- so it is of the tables of a version
pub moved_by : (n : ℕ) (change : Tables → Tables) (old new : Database) → ((t : Tables) → HoldsIn n old t → HoldsIn n new (change t) × LeavesBeside (schema_tables n) old new) → Moved n change old new
moved_by n change old new does = record { rows = λ t h. (does t h).0; others = λ t h. (does t h).1 }

pub left_then : (tables : List Table) (a b c : Database) → LeavesBeside tables a b → LeavesBeside tables b c → LeavesBeside tables a c
left_then tables a b c one two = record {
  schema = two.schema ∙ one.schema;
  rows = λ other own passive apart.
      let later = two.rows other (subst (λ (s : Schema). IsOwn s other) (sym one.schema) own) passive (subst (λ (s : Schema). AllByRecursion (λ (ours : Table). tree_of s other.name ≢ tree_of s ours.name) tables) (sym one.schema) apart) in
      subst (λ (s : Schema). c.trees (tree_of s other.name) ≡ b.trees (tree_of s other.name)) one.schema later ∙ one.rows other own passive apart;
}

module _ (old new : Database) (same : new.schema ≡ old.schema) where
  abbrev s : Schema
  s = old.schema

  abbrev now : Database
  now = record { schema = s; trees = new.trees }

  module _ (table : Table) (rows : List Row) (w : Leads s (tree_of s table.name) rows old.trees new.trees) (keyed : IsKeyedBy rowid_of rows) where
    -- a table with another tree keeps its rows
    abbrev Stays : Table → Type 0
    Stays other = tree_of s other.name ≢ tree_of s table.name → new.trees (tree_of s other.name) ≡ old.trees (tree_of s other.name)

    -- Those of ours do, of which these are the first ones, but for those that follow the one that is written, of which it has to be shown.
    module _ (place all : ℕ) (at : slice_get our_tables place ≡ Some table) (within : place < all) (ours : AreOwn s (take all our_tables)) where
      -- one that follows another one does
      other_stays : (n m : ℕ) (x : Table) → n < all → IsOwn s x → (m == place) ≡ false → IsFollowing our_tables n x (Some m) → Stays x
      other_stays n m x low own other follows apart =
          w.followers follows.1 x own (follows_by s follows.1 x (own_in s all ours m follows.1 (omega (arith, low, follows.0)) follows.2) follows.3 follows.4)
          (apart_both s all ours m place follows.1 table follows.2 at (omega (arith, low, follows.0)) within other) apart

      all_stay : (k n : ℕ) (ts : List Table) (os : List (Option ℕ)) → n + k ≡ all → AllFollow our_tables n ts os → AllByRecursion (IsOwn s) (take k ts) → AllByRecursion Stays (followers place ts os) → AllByRecursion Stays (take k ts)
      all_stay zero n ts os whole f own stay = tt
      all_stay (suc k) n [] os whole f own stay = tt
      all_stay (suc k) n (x ∷ ts) [] whole f own stay = absurd f
      all_stay (suc k) n (x ∷ ts) (None ∷ os) whole f own stay = (w.others x own.0 f.0, all_stay k (suc n) ts os (omega (arith, whole)) f.1 own.1 stay)
      all_stay (suc k) n (x ∷ ts) (Some m ∷ os) whole f own stay = by_test (m == place) refl stay (all_stay k (suc n) ts os (omega (arith, whole)) f.1 own.1)
        where
          by_test : (b : Bool) → (m == place) ≡ b → AllByRecursion Stays (cond b (x ∷ followers place ts os) (followers place ts os)) → (AllByRecursion Stays (followers place ts os) → AllByRecursion Stays (take k ts)) → Stays x × AllByRecursion Stays (take k ts)
          by_test true e given more = (given.0, more given.1)
          by_test false e given more = (other_stays n m x (omega (arith, whole)) own.0 e f.0, more given)

    others_stay : (xs : List StoredTable) → AllByRecursion Stays (tables_in xs) → AllByRecursion (λ (b : Table). tree_of s b.name ≢ tree_of s table.name) (tables_in xs)
        → AllByRecursion (HasRows old) xs → AllByRecursion (HasRows now) xs
    others_stay [] stay apart h = tt
    others_stay (x ∷ xs) stay apart h = (record { rows = stay.0 apart.0 ∙ h.0.rows; keyed = h.0.keyed }, others_stay xs stay.1 apart.1 h.1)

    -- the table at a place has the new rows, and each other those that it had, since no two have one tree
    one_written : (n : ℕ) (xs : List StoredTable) → slice_get (tables_in xs) n ≡ Some table → AreOwn s (tables_in xs) → AllByRecursion Stays (tables_in xs) → AllByRecursion (HasRows old) xs → AllByRecursion (HasRows now) (with_rows n rows xs)
    one_written n [] is ours stay h = tt
    one_written zero (x ∷ xs) is ours stay h =
        let this : x.table ≡ table = cc in
        let others : AllByRecursion (λ (b : Table). tree_of s table.name ≢ tree_of s b.name) (tables_in xs) = subst (λ (a : Table). AllByRecursion (λ (b : Table). tree_of s a.name ≢ tree_of s b.name) (tables_in xs)) this ours.apart.0 in
        let apart = all_weaker _ (λ (b : Table). tree_of s b.name ≢ tree_of s table.name) (λ b other e. other (sym e)) (tables_in xs) others in
        (record { rows = ap (λ (a : Table). new.trees (tree_of s a.name)) this ∙ w.rows; keyed = keyed }, others_stay xs stay.1 apart h.1)
    one_written (suc n) (x ∷ xs) is ours stay h =
        let other : tree_of s x.table.name ≢ tree_of s table.name = all-slice_get (λ (b : Table). tree_of s x.table.name ≢ tree_of s b.name) (tables_in xs) n table is ours.apart.0 in (
          record { rows = stay.0 other ∙ h.0.rows; keyed = h.0.keyed },
          one_written n xs is (record { own = ours.own.1; apart = ours.apart.1 }) stay.1 h.1,
        )

    -- whichever tables the database holds
    turned : (n : ℕ) (xs ys : List StoredTable) → slice_get (tables_in xs) n ≡ Some table → with_rows n rows xs ≡ ys → HoldsAll old xs → AllByRecursion Stays (tables_in xs) → HoldsAll new ys × LeavesBeside (tables_in xs) old new
    turned n xs ys at is h stay = (
      subst (λ k. HoldsAll (record { schema = k; trees = new.trees }) ys) (sym same) (subst (HoldsAll now) is (record {
        own = subst (AreOwn s) (sym (same_tables n rows xs)) h.own;
        rows = one_written n xs at h.own stay h.rows;
      })),
      record { schema = same; rows = λ other own passive apart. w.others other own passive (all-slice_get (λ (ours : Table). tree_of s other.name ≢ tree_of s ours.name) (tables_in xs) n table at apart) },
    )

  -- the rows of a table of ours were written, in a database that holds the first ones of ours
  module _ {R : Type 0} (x : Ours R) (t : Tables) (xs : List (Kept R)) where
    abbrev table : Table
    table = x.layout.table

    abbrev rows : List Row
    rows = map (stored x.layout.cells) xs

    abbrev IsWritten : Type 0
    IsWritten = Leads s (tree_of s table.name) rows old.trees new.trees

    -- another table keeps its rows
    abbrev Keeps : Table → Type 0
    Keeps other = tree_of s other.name ≢ tree_of s table.name → new.trees (tree_of s other.name) ≡ old.trees (tree_of s other.name)

    -- the followers of the table do so, if it has any
    abbrev pub FollowersStay : Type 0
    FollowersStay = AllByRecursion Keeps (followers x.place our_tables followed)

    pub written_in : (k : ℕ) → x.place < k → HoldsAll old (take k (stored_tables t)) → FollowersStay → IsWritten → IsKeyedBy id_of xs
        → HoldsAll new (take k (stored_tables (x.put xs t))) × LeavesBeside (take k our_tables) old new
    written_in k low h stay w keyed =
        let risen = rows_keyed x.layout xs keyed in
        let ours = subst (AreOwn s) (tables_taken k t) h.own in
        let at : slice_get our_tables x.place ≡ Some table = slice_get-map (λ (y : StoredTable). y.table) (stored_tables t) x.place ∙ ap (option_map (λ (y : StoredTable). y.table)) (x.at t) in
        let at_taken : slice_get (tables_in (take k (stored_tables t))) x.place ≡ Some table = ap (λ l. slice_get l x.place) (tables_taken k t) ∙ slice_get-take k our_tables x.place low ∙ at in
        let all = all_stay table rows w risen x.place k at low ours k 0 our_tables followed (omega arith) our_follow ours.own stay in
        let it = turned table rows w risen x.place (take k (stored_tables t)) (take k (stored_tables (x.put xs t))) at_taken (rows_taken x.place k rows (stored_tables t) ∙ ap (take k) (x.puts t xs)) h
        (subst (AllByRecursion (Keeps)) (sym (tables_taken k t)) all) in
        (it.0, subst (λ l. LeavesBeside l old new) (tables_taken k t) it.1)

    written : Holds old t → FollowersStay → IsWritten → IsKeyedBy id_of xs → Turns old new (x.put xs t)
    written h stay w keyed = let it = written_in (count_in SCHEMA_VERSION) x.low (holds_all old t h) stay w keyed in (record { ours = it.0.own; rows = it.0.rows }, it.1)

-- ---- what a text does

module _ {R : Type 0} (x : Ours R) (casts : (r : R) → cast_all x.layout.table.columns (x.layout.cells r) ≡ x.layout.cells r) (old new : State) (count : ℕ) (t : Tables) (h : Holds old.now t)
    (text : List ℕ) (params : Row) (ran : Executes text params old new (Ok count)) where
  abbrev cells : R → Row
  cells = x.layout.cells

  its : IsHeld x.layout old.now (x.rows t)
  its = held old.now t h x

  -- what the text means wherever the table stands
  abbrev MeansThere : (ℕ → ℕ → Command) → Type 0
  MeansThere meant = (at tree : ℕ) → StandsAt old.now.schema x.layout.table.name x.layout.table at tree → Means old.now.schema (meant at tree) text

  abbrev Remains : Table → Type 0
  Remains other = tree_of old.now.schema other.name ≢ tree_of old.now.schema x.layout.table.name → new.now.trees (tree_of old.now.schema other.name) ≡ old.now.trees (tree_of old.now.schema other.name)

  -- the tables that follow this one keep their rows
  abbrev Stay : Type 0
  Stay = AllByRecursion Remains (followers x.place our_tables followed)

  pub updated : {filter terms : List Term} → MeansThere (λ at tree. Update at (plain_program (update_query tree filter terms))) → (p : Kept R → Bool) → ((y : Kept R) → list_all (holds (params ∷ stored cells y ∷ [])) filter ≡ p y)
      → (f : R → R) → ((y : Kept R) → eval_all terms (params ∷ stored cells y ∷ []) ≡ cells (f y.1)) → Stay → Turns old.now new.now (x.put (update_where p (λ y. (y.0, f y.1)) (x.rows t)) t)
  updated means p tests f shows stay =
      let next : Kept R → Kept R = λ y. (y.0, f y.1) in
      let left = update_own cells x.layout.table casts old new its.own its.steady (x.rows t) its.rows its.keyed text params count ran
      _ (means _ _ its.own.place) refl refl refl (λ rows. refl) p tests next (λ y. refl) (λ y. ap (λ cs. Int y.0 ∷ Int y.0 ∷ cs) (shows y)) in
      written old.now new.now left.1 x t _ h stay left.0 (IsKeyedBy-update_where id_of p next (λ y. refl) (x.rows t) its.keyed)

  pub deleted : {filter : List Term} → MeansThere (λ at tree. Delete at (plain_program (delete_query tree filter))) → (p : Kept R → Bool) → ((y : Kept R) → list_all (holds (params ∷ stored cells y ∷ [])) filter ≡ p y)
      → Stay → Turns old.now new.now (x.put (delete_where p (x.rows t)) t)
  deleted means p tests stay =
      let left = delete_own cells x.layout.table casts old new its.own its.steady (x.rows t) its.rows its.keyed text params count ran
      _ (means _ _ its.own.place) refl refl refl (λ rows. refl) p tests (λ y. refl) in
      written old.now new.now left.1 x t _ h stay left.0 (IsKeyedBy-delete_where id_of p (x.rows t) its.keyed)

  -- a new row leaves all others
  pub inserted : {terms : List Term} {width : ℕ} → MeansThere (λ at tree. Insert at (Values terms width)) → x.layout.table.is_counted ≡ false → stamped x.layout.table params ≡ params
      → (row : R) → value_rows params width (length terms / width) terms ≡ (Null ∷ cells row) ∷ [] → Turns old.now new.now (x.put (x.rows t ++ (next_key id_of (x.rows t), row) ∷ []) t)
  inserted {terms} {width} means uncounted unstamped row given =
      let left = insert_own cells x.layout.table casts old new its.own its.steady (x.rows t) its.rows its.keyed text params count ran terms width (means _ _ its.own.place) uncounted unstamped row given in
      let others = insert_others x.layout.table old new its.own text params count ran (Values terms width) (means _ _ its.own.place) uncounted unstamped in
      let remain = all_weaker _ Remains (λ other own. other_keeps old.now.schema (tree_of old.now.schema x.layout.table.name) old.now.trees new.now.trees other own others.1) our_tables h.ours.own in
      written old.now new.now left.1 x t _ h (all_followers Remains x.place our_tables followed remain) left.0 (keyed_next (x.rows t) row its.keyed)
