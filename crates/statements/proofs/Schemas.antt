-- The tables of all versions are made one after another, and a version is raised to the next.
use Rattle.statements.proofs.Outside.{◌≡◌, ◌≢◌, ◌≤◌, ◌+◌, ℕ, zero, suc, true, ◌<◌, length, take, get_or, IsTrue, arith, List, [], ◌∷◌, ◌++◌, map, Result, Ok, Err, OnOk, OnErr, refl, sym, ap, ◌∙◌, subst, append_assoc, append-nil, map-append, AllByRecursion, AllZip, Table, table_named, all_weaker, all_both, all-append, all-slice_get, Database, state, State, HasCleanDisk, KeepsCommit, Transaction, Ghosts, doubt, keeps_then, rows_trans}
use Rattle.std.specs.Borrow.{Bor}
use Rattle.std.specs.Result.{IsErr}
use Rattle.statements.specs.Place.{IsOwn, RefersPassively, at_of, tree_of}
use Rattle.statements.specs.Schema.{edition_table}
use Rattle.statements.specs.Steps.{LeavesBeside}
use Rattle.statements.specs.declared.making.TheConstants.{SCHEMA_VERSION}
use Rattle.statements.specs.Tables.{Tables, HoldsAll, HoldsIn, StoredTable, no_rows, our_tables, is_known, count_in, stored_in, schema_tables, added_by, up_to, tables_in}
use Rattle.statements.specs.Making.{bare_table, IsNotNamed, KeepsTables, HasSchema, Alters, AltersBy, MakesBy, IsBeside, KeepsForeign, Raises, raised}
use Rattle.statements.specs.Inner.Making.{Grows, IsMaker, texts_in, all_of, Moved, Reported}
use Rattle.statements.proofs.Begin.{none_made}
use Rattle.statements.proofs.Counts.{version_grows}
use Rattle.statements.proofs.Held.{tables_taken}
use Rattle.statements.proofs.Grown.{tree_stays, at_stays}
use Rattle.statements.proofs.Frames.{left_then}
use Rattle.statements.proofs.Makes.{tables_kept_then, front}

moved_apart : (a b c : Database) (k : KeepsTables b c) (ts : List Table) → AllByRecursion (IsOwn b.schema) ts
    → AllByRecursion (λ (x : Table). AllByRecursion (λ (t : Table). t.tree ≢ tree_of b.schema x.name) a.schema.tables) ts
    → AllByRecursion (λ (x : Table). AllByRecursion (λ (t : Table). t.tree ≢ tree_of c.schema x.name) a.schema.tables) ts
moved_apart a b c k [] own h = tt
moved_apart a b c k (x ∷ ts) own h =
    (subst (λ n. AllByRecursion (λ (t : Table). t.tree ≢ n) a.schema.tables) (sym (tree_stays b c k x own.0)) h.0, moved_apart a b c k ts own.1 h.1)

-- what was there before the first is apart from what the second added
front_apart : (a b c : Database) (k : KeepsTables a b) (ts : List Table)
    → AllByRecursion (λ (x : Table). AllByRecursion (λ (t : Table). t.tree ≢ tree_of c.schema x.name) b.schema.tables) ts
    → AllByRecursion (λ (x : Table). AllByRecursion (λ (t : Table). t.tree ≢ tree_of c.schema x.name) a.schema.tables) ts
front_apart a b c k ts h =
    all_weaker _ (λ (x : Table). AllByRecursion (λ (t : Table). t.tree ≢ tree_of c.schema x.name) a.schema.tables)
    (λ x all. (front (λ (t : Table). t.tree ≢ tree_of c.schema x.name) a.schema.tables k.more (subst (AllByRecursion (λ (t : Table). t.tree ≢ tree_of c.schema x.name)) k.tables all)).0) ts h

own_bare : (P : Table → Type 0) (ts : List Table) → AllByRecursion P (tables_in (map bare_table ts)) → AllByRecursion P ts
own_bare P [] h = tt
own_bare P (t ∷ ts) h = (h.0, own_bare P ts h.1)

bare_both : (xs : List StoredTable) (ts us : List Table) → (xs ++ map bare_table ts) ++ map bare_table us ≡ xs ++ map bare_table (ts ++ us)
bare_both xs ts us = append_assoc xs (map bare_table ts) (map bare_table us) ∙ ap (λ l. xs ++ l) (sym (map-append bare_table ts us))

pub grown_then : (xs ys : List Table) (a b c : Database) → Grows xs a b → Grows ys b c → Grows (xs ++ ys) a c
grown_then xs ys a b c g h = record {
  made = λ ts m. subst (λ l. HoldsAll c l) (bare_both ts xs ys) (h.made (ts ++ map bare_table xs) (g.made ts m));
  owns = λ other own. h.owns other (g.owns other own);
  kept = tables_kept_then a b c g.kept h.kept;
  names = λ name engine apart none. let two = front (IsNotNamed name) xs ys apart in h.names name engine two.1 (g.names name engine two.0 none);
  apart = all-append _ xs ys (moved_apart a b c h.kept xs (own_bare (IsOwn b.schema) xs (g.made [] (none_made a)).own.own) g.apart) (front_apart a b c g.kept ys h.apart);
}

-- the last step: the version is set
pub schema_set : (a b c : Database) → Grows our_tables a b → Reported SCHEMA_VERSION b c → HasSchema a c
schema_set a b c g reported =
    let made = g.made [] (none_made a) in
    let set = reported.moved.rows no_rows made in
    let left = reported.leaves (all-slice_get (IsOwn b.schema) our_tables 9 edition_table refl made.own.own) in
    let apart = all-slice_get (λ (x : Table). AllByRecursion (λ (t : Table). t.tree ≢ tree_of b.schema x.name) a.schema.tables) our_tables 9 edition_table refl g.apart in
    let rows = (front (λ (t : Table). t.tree ≢ tree_of b.schema edition_table.name → c.trees t.tree ≡ b.trees t.tree) a.schema.tables g.kept.more
    (subst (AllByRecursion (λ (t : Table). t.tree ≢ tree_of b.schema edition_table.name → c.trees t.tree ≡ b.trees t.tree)) g.kept.tables left.1)).0 in
    record {
      holds = record { ours = set.own; rows = set.rows };
      kept = record {
        more = g.kept.more;
        tables = ap (λ (s : _). s.tables) left.0 ∙ g.kept.tables;
        rows = rows_trans a.schema.tables a.trees b.trees c.trees g.kept.rows (all_both _ _ (λ (t : Table). c.trees t.tree ≡ b.trees t.tree) (λ t keeps apart. keeps apart) a.schema.tables rows apart);
      };
    }

-- ---- inside one transaction

-- one more step, which may fail
alters_more : {X E : Type 0} (F G H : Database → Database → Type 0) (a b c : State) (result : Result X E) → (F a.now b.now → G b.now c.now → H a.now c.now) → Alters F a b
    → OnOk result (Alters G b c) × OnErr result (KeepsCommit b c) → OnOk result (Alters H a c) × OnErr result (KeepsCommit a c)
alters_more F G H a b c (Ok x) f one two =
    (record { change = f one.change two.0.change; was_open = one.was_open; is_open = two.0.is_open; committed = two.0.committed ∙ one.committed; inside = two.0.inside }, tt)
alters_more F G H a b c (Err e) f one two = (tt, keeps_then a b c (record { was_open = λ _. one.was_open; committed = λ _. one.committed }) two.1)

module _ {S : Type 0} (g : Ghosts S) where
  -- one step, and others
  pub makes_then : {X Y E : Type 0} (F G H : Database → Database → Type 0) → ((a b c : Database) → F a b → G b c → H a c) → (a b c : Transaction S) (x : X) (result : Result Y E)
      → MakesBy {E = E} g F a b (Ok x) → MakesBy g G b c result → MakesBy g H a c result
  makes_then F G H f a b c x result one two = record {
    same_reference = two.same_reference ∙ one.same_reference;
    made = λ clean inside.
        let before : HasCleanDisk (state g b.conn.now) = omega (arith, two.clean, clean) in
        let first = (one.made before inside).0 in
        alters_more F G H (state g a.conn.now) (state g b.conn.now) (state g c.conn.now) result (f (state g a.conn.now).now (state g b.conn.now).now (state g c.conn.now).now) first (two.made clean first.inside);
    clean = omega (arith, one.clean, two.clean);
    shield = λ s. two.shield (one.shield s);
  }

  -- What was made so far: where it is nothing, the connection is as it was.
  pub record MadeSoFar (n : ℕ) (tables : List Table) (old new : Transaction S) : Type 0 where
    pub same_reference : new.conn.ghost_name ≡ old.conn.ghost_name
    pub start : n ≡ 0 → (new.conn.now ≡ old.conn.now) × (tables ≡ [])
    pub made : 1 ≤ n → HasCleanDisk (state g new.conn.now) → IsTrue (state g old.conn.now).in_transaction → Alters (Grows tables) (state g old.conn.now) (state g new.conn.now)
    pub clean : doubt (state g old.conn.now).is_clean ≤ doubt (state g new.conn.now).is_clean
    pub shield : (state g old.conn.now).IsShielded → (state g new.conn.now).IsShielded

  pub made_all : {X E : Type 0} (n : ℕ) (tables : List Table) (a b : Transaction S) (x : X) → 1 ≤ n → MadeSoFar n tables a b → MakesBy {E = E} g (Grows tables) a b (Ok x)
  made_all n tables a b x some h = record { same_reference = h.same_reference; made = λ clean inside. (h.made some clean inside, tt); clean = h.clean; shield = h.shield }

  -- such a call, told of the connection before the first
  from_start : {X E : Type 0} (ts us : List Table) (a b c : Transaction S) (result : Result X E) → (b.conn.now ≡ a.conn.now) × (ts ≡ []) → MakesBy g (Grows us) b c result
      → AltersBy (Grows (ts ++ us)) (state g a.conn.now) (state g c.conn.now) result
  from_start ts us a b c result same one =
      subst (λ l. AltersBy (Grows (l ++ us)) (state g a.conn.now) (state g c.conn.now) result) (sym same.1) (subst (λ h. AltersBy (Grows us) (state g h) (state g c.conn.now) result) same.0 one.made)

  by_count : {X E : Type 0} (n : ℕ) (ts us : List Table) (a b c : Transaction S) (result : Result X E) → MadeSoFar n ts a b → MakesBy g (Grows us) b c result → AltersBy (Grows (ts ++ us)) (state g a.conn.now) (state g c.conn.now) result
  by_count zero ts us a b c result h one = from_start ts us a b c result (h.start refl) one
  by_count (suc n) ts us a b c result h one = (makes_then (Grows ts) (Grows us) (Grows (ts ++ us)) (grown_then ts us) a b c (tt {0}) result (made_all (suc n) ts a b (tt {0}) (omega arith) h) one).made

  pub made_more : {X E : Type 0} (n : ℕ) (ts us : List Table) (a b c : Transaction S) (x : X) → MadeSoFar n ts a b → MakesBy {E = E} g (Grows us) b c (Ok x) → MadeSoFar (n + 1) (ts ++ us) a c
  made_more n ts us a b c x h one = record {
    same_reference = one.same_reference ∙ h.same_reference;
    start = λ none. absurd (omega (arith, none));
    made = λ _ clean inside. (by_count n ts us a b c (Ok x) h one clean inside).0;
    clean = omega (arith, h.clean, one.clean);
    shield = λ s. one.shield (h.shield s);
  }

  pub made_failed : {X Y E F : Type 0} (n : ℕ) (ts us vs : List Table) (a b c : Transaction S) (e : E) (result : Result Y F) → IsErr result → MadeSoFar n ts a b → MakesBy {X = X} g (Grows us) b c (Err e) → MakesBy g (Grows vs) a c result
  made_failed n ts us vs a b c e (Ok y) is h one = absurd (cc)
  made_failed n ts us vs a b c e (Err f) is h one = record {
    same_reference = one.same_reference ∙ h.same_reference;
    made = λ clean inside. (tt, (by_count n ts us a b c (Err e) h one clean inside).1);
    clean = omega (arith, h.clean, one.clean);
    shield = λ s. one.shield (h.shield s);
  }

-- the next text, and what it makes
pub next_made : (texts : List (Bor (List ℕ))) (made : List (List Table)) (i : ℕ) (other : Bor (List ℕ)) → AllZip IsMaker (texts_in texts) made → i < length texts
    → (one : List Table) × IsMaker (get_or texts i other).now one × (all_of (take (i + 1) made) ≡ all_of (take i made) ++ one)
next_made [] made i other are low = absurd (omega (arith, low))
next_made (t ∷ texts) [] i other are low = absurd are
next_made (t ∷ texts) (m ∷ made) zero other are low = (m, are.0, append-nil m)
next_made (t ∷ texts) (m ∷ made) (suc i) other are low =
    let more = next_made texts made i other are.1 (omega arith) in
    let one_on : suc i + 1 ≡ suc (i + 1) = omega arith in
    (more.0, more.1, ap (λ k. all_of (take k (m ∷ made))) one_on ∙ ap (λ l. m ++ l) more.2 ∙ sym (append_assoc m (all_of (take i made)) more.0))

-- where none is next, all are made
pub last_made : (texts : List (Bor (List ℕ))) (made : List (List Table)) (i : ℕ) → AllZip IsMaker (texts_in texts) made → length texts ≤ i → take i made ≡ made
last_made [] [] zero are high = refl
last_made [] [] (suc i) are high = refl
last_made [] (m ∷ made) i are high = absurd are
last_made (t ∷ texts) [] i are high = absurd are
last_made (t ∷ texts) (m ∷ made) zero are high = absurd (omega (arith, high))
last_made (t ∷ texts) (m ∷ made) (suc i) are high = ap (λ l. m ∷ l) (last_made texts made i are.1 (omega arith))

-- ---- from one schema to the next

-- what is not ours is left by the new tables, and by what is written behind them
module _ (before added : List Table) (a b e : Database) (grown : Grows added a b) (left : LeavesBeside (before ++ added) b e) (were : AllByRecursion (IsOwn a.schema) before) where
  module _ (other : Table) (own : IsOwn a.schema other) where
    tree_there : tree_of b.schema other.name ≡ tree_of a.schema other.name
    tree_there = tree_stays a b grown.kept other own

    still_beside : (ts : List Table) → AllByRecursion (IsOwn a.schema) ts → IsBeside a other ts → IsBeside b other ts
    still_beside [] h k = tt
    still_beside (t ∷ ts) h k = ((λ same. k.0 (sym tree_there ∙ same ∙ tree_stays a b grown.kept t h.0)), still_beside ts h.1 k.1)

    -- and the new ones have trees that none of those before has
    new_beside : IsBeside b other added
    new_beside =
        all_weaker (λ (x : Table). AllByRecursion (λ (t : Table). t.tree ≢ tree_of b.schema x.name) a.schema.tables) (λ (x : Table). tree_of b.schema other.name ≢ tree_of b.schema x.name)
        (λ x all same. all-slice_get (λ (t : Table). t.tree ≢ tree_of b.schema x.name) a.schema.tables (at_of a.schema other.name) _ own.place.found all (sym tree_there ∙ same)) added grown.apart

    all_beside : IsBeside a other before → IsBeside b other (before ++ added)
    all_beside apart = all-append (λ (ours : Table). tree_of b.schema other.name ≢ tree_of b.schema ours.name) before added (still_beside before were apart) new_beside

    rows_left : RefersPassively other → IsBeside a other before → e.trees (tree_of a.schema other.name) ≡ a.trees (tree_of a.schema other.name)
    rows_left passive apart =
        subst (λ n. e.trees n ≡ b.trees n) tree_there (left.rows other (grown.owns other own) passive (all_beside apart))
        ∙ all-slice_get (λ (t : Table). b.trees t.tree ≡ a.trees t.tree) a.schema.tables (at_of a.schema other.name) _ own.place.found grown.kept.rows

  foreign_kept : KeepsForeign before (before ++ added) a e
  foreign_kept = record {
    owns = λ other own. subst (λ (s : _). IsOwn s other) (sym left.schema) (grown.owns other own);
    stands = λ other own. (
      ap (λ s. at_of s other.name) left.schema ∙ at_stays a b grown.kept other own,
      ap (λ s. tree_of s other.name) left.schema ∙ tree_stays a b grown.kept other own,
    );
    beside = λ other own apart. subst (λ (s : _). AllByRecursion (λ (ours : Table). tree_of s other.name ≢ tree_of s ours.name) (before ++ added)) (sym left.schema) (all_beside other own apart);
    rows = λ other own passive apart. rows_left other own passive apart;
  }

-- one write, and others
pub moved_then : (n : ℕ) (f h : Tables → Tables) (a b c : Database) → Moved n f a b → Moved n h b c → Moved n (λ t. h (f t)) a c
moved_then n f h a b c one two = record { rows = λ t held. two.rows (f t) (one.rows t held); others = λ t held. left_then (schema_tables n) a b c (one.others t held) (two.others (f t) (one.rows t held)) }

-- A version is raised to the next: its tables are made behind those that there were, and rows are written.
module _ (n : ℕ) (is : is_known (suc n) ≡ true) (change : Tables → Tables) (behind : (t : Tables) → stored_in n t ++ map bare_table (added_by (suc n)) ≡ stored_in (suc n) (up_to n t))
    (then : (t : Tables) → stored_in (suc n) (change (up_to n t)) ≡ stored_in (suc n) (raised n t)) where
  bare : (a b : Database) → Grows (added_by (suc n)) a b → (t : Tables) → HoldsIn n a t → HoldsIn (suc n) b (up_to n t)
  bare a b one t h = subst (HoldsAll b) (behind t) (one.made (stored_in n t) h)

  pub raised_by : (a b c : Database) → Grows (added_by (suc n)) a b → Moved (suc n) change b c → Raises n a c
  raised_by a b c one two = record {
    holds = λ t h. subst (HoldsAll c) (then t) (two.rows (up_to n t) (bare a b one t h));
    names = λ t h name engine apart none. ap (λ s. table_named s name) (two.others (up_to n t) (bare a b one t h)).schema ∙ one.names name engine apart none;
    foreign = λ t h.
        let left = subst (λ l. LeavesBeside l b c) (sym (version_grows n is)) (two.others (up_to n t) (bare a b one t h)) in
        subst (λ l. KeepsForeign (schema_tables n) l a c) (version_grows n is)
        (foreign_kept (schema_tables n) (added_by (suc n)) a b c one left (subst (AllByRecursion (IsOwn a.schema)) (tables_taken (count_in n) t) h.own.own));
  }
