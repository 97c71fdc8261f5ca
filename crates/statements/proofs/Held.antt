-- Our tables, each as one value, and as a database that holds those of a version has it.
use Rattle.std.proofs.Common.{◌≡◌, ◌≢◌, ◌<◌, ◌+◌, inl, inr, arith, ℕ, zero, suc, nat_lt, Bool, true, false, List, [], ◌∷◌, map, take, slice_get, Option, Some, None, option_map, refl, sym, ap, ◌∙◌, subst}
use Rattle.std.specs.Prelude.{◌==◌}
use Rattle.statements.proofs.Outside.{nat_tests, take-map, slice_get-map, IsAscending, Row, Schema, Table, IsKeyedBy, all-slice_get, ascending-map, ascending_from_map, Database, slice_get-take}
use Rattle.statements.specs.Place.{tree_of, IsOwn, AreOwn}
use Rattle.statements.specs.Rows.{Kept, id_of, OrgRow, TokenRow, WsRow, VersionRow, RunRow, PageRow, VpageRow, BoundRow, RetentionRow, stored}
use Rattle.statements.specs.Schema.{token_table, ws_table}
use Rattle.statements.specs.declared.making.TheConstants.{SCHEMA_VERSION}
use Rattle.statements.specs.Tables.{count_in, Layout, Tables, Holds, HoldsAll, HasRows, StoredTable, stored_table, stored_tables, tables_in, our_tables, rowid_of, meta_layout, org_layout, token_layout, ws_layout, version_layout, run_layout, page_layout, vpage_layout, bound_layout, edition_layout, retention_layout}
use Rattle.statements.proofs.Counts.{rising}
use Rattle.statements.proofs.Follows.{IsSteady, IsFollowing, AllFollow, follow_at, follows_by}

-- the table at a place with other rows
abbrev pub with_rows : ℕ → List Row → List StoredTable → List StoredTable
with_rows n rows [] = []
with_rows zero rows (x ∷ xs) = record x { rows = rows } ∷ xs
with_rows (suc n) rows (x ∷ xs) = x ∷ with_rows n rows xs

-- A table of ours: its place in the list of them, and its rows among those of all.
pub record Ours (R : Type 0) : Type 0 where
  pub layout : Layout R
  pub place : ℕ
  pub rows : Tables → List (Kept R)
  pub put : List (Kept R) → Tables → Tables
  pub low : place < count_in SCHEMA_VERSION
  pub at : (t : Tables) → slice_get (stored_tables t) place ≡ Some (stored_table layout (rows t))
  pub puts : (t : Tables) (xs : List (Kept R)) → with_rows place (map (stored layout.cells) xs) (stored_tables t) ≡ stored_tables (put xs t)

abbrev pub metas : Ours ℕ
metas = record { layout = meta_layout; place = 0; rows = λ t. t.metas; put = λ xs t. record t { metas = xs }; low = omega arith; at = λ t. refl; puts = λ t xs. refl }

abbrev pub orgs : Ours OrgRow
orgs = record { layout = org_layout; place = 1; rows = λ t. t.orgs; put = λ xs t. record t { orgs = xs }; low = omega arith; at = λ t. refl; puts = λ t xs. refl }

abbrev pub tokens : Ours TokenRow
tokens = record { layout = token_layout; place = 2; rows = λ t. t.tokens; put = λ xs t. record t { tokens = xs }; low = omega arith; at = λ t. refl; puts = λ t xs. refl }

abbrev pub wss : Ours WsRow
wss = record { layout = ws_layout; place = 3; rows = λ t. t.wss; put = λ xs t. record t { wss = xs }; low = omega arith; at = λ t. refl; puts = λ t xs. refl }

abbrev pub versions : Ours VersionRow
versions = record { layout = version_layout; place = 4; rows = λ t. t.versions; put = λ xs t. record t { versions = xs }; low = omega arith; at = λ t. refl; puts = λ t xs. refl }

abbrev pub runs : Ours RunRow
runs = record { layout = run_layout; place = 5; rows = λ t. t.runs; put = λ xs t. record t { runs = xs }; low = omega arith; at = λ t. refl; puts = λ t xs. refl }

abbrev pub pages : Ours PageRow
pages = record { layout = page_layout; place = 6; rows = λ t. t.pages; put = λ xs t. record t { pages = xs }; low = omega arith; at = λ t. refl; puts = λ t xs. refl }

abbrev pub vpages : Ours VpageRow
vpages = record { layout = vpage_layout; place = 7; rows = λ t. t.vpages; put = λ xs t. record t { vpages = xs }; low = omega arith; at = λ t. refl; puts = λ t xs. refl }

abbrev pub bounds : Ours BoundRow
bounds = record { layout = bound_layout; place = 8; rows = λ t. t.bounds; put = λ xs t. record t { bounds = xs }; low = omega arith; at = λ t. refl; puts = λ t xs. refl }

abbrev pub editions : Ours ℕ
editions = record { layout = edition_layout; place = 9; rows = λ t. t.editions; put = λ xs t. record t { editions = xs }; low = omega arith; at = λ t. refl; puts = λ t xs. refl }

abbrev pub retentions : Ours RetentionRow
retentions = record { layout = retention_layout; place = 10; rows = λ t. t.retentions; put = λ xs t. record t { retentions = xs }; low = omega arith; at = λ t. refl; puts = λ t xs. refl }

-- the place of the one that each of ours follows, if it follows one
abbrev pub followed : List (Option ℕ)
followed = None ∷ None ∷ None ∷ None ∷ None ∷ None ∷ None ∷ None ∷ Some 2 ∷ None ∷ Some 3 ∷ []

pub our_follow : AllFollow our_tables 0 our_tables followed
our_follow = (tt, (tt, (tt, (tt, (tt, (tt, (tt, ((refl, tt), ((omega arith, token_table, refl, tt, (refl, tt)), (tt, ((omega arith, ws_table, refl, tt, (refl, tt)), tt)))))))))))

followed_at : (n : ℕ) (table : Table) → slice_get our_tables n ≡ Some table → (o : Option ℕ) × IsFollowing our_tables n table o
followed_at n table at =
    let it = follow_at our_tables 0 our_tables followed our_follow n table at in
    let same : n + 0 ≡ n = omega arith in
    (it.0, subst (λ m. IsFollowing our_tables m table it.0) same it.1)

-- the table stands in the schema, and no write to others but the one that it follows changes it, and its tree has these rows in the order of their rowids
pub record IsHeld {R : Type 0} (layout : Layout R) (db : Database) (xs : List (Kept R)) : Type 0 where
  pub own : IsOwn db.schema layout.table
  pub steady : IsSteady db.schema layout.table
  pub rows : db.trees (tree_of db.schema layout.table.name) ≡ map (stored layout.cells) xs
  pub keyed : IsKeyedBy id_of xs

pub rows_keyed : {R : Type 0} (layout : Layout R) (xs : List (Kept R)) → IsKeyedBy id_of xs → IsKeyedBy rowid_of (map (stored layout.cells) xs)
rows_keyed layout xs = ascending-map _ (stored layout.cells) xs

-- two of them have different trees
pub trees_apart : (s : Schema) (xs : List Table) (n m : ℕ) (a b : Table) → slice_get xs n ≡ Some a → slice_get xs m ≡ Some b → n < m → IsAscending (λ (x y : Table). tree_of s x.name ≢ tree_of s y.name) xs
    → tree_of s a.name ≢ tree_of s b.name
trees_apart s xs n m a b at_n at_m low up = rising (λ (x y : Table). tree_of s x.name ≢ tree_of s y.name) xs n m a b at_n at_m low up

-- the first ones of our tables, whatever their rows
pub tables_taken : (k : ℕ) (t : Tables) → tables_in (take k (stored_tables t)) ≡ take k our_tables
tables_taken k t = sym (take-map (λ (x : StoredTable). x.table) k (stored_tables t))

-- ---- in a database that has the first ones of our tables

module _ (s : Schema) (k : ℕ) (own : AreOwn s (take k our_tables)) where
  pub own_in : (n : ℕ) (table : Table) → n < k → slice_get our_tables n ≡ Some table → IsOwn s table
  own_in n table low at = all-slice_get (IsOwn s) (take k our_tables) n table (slice_get-take k our_tables n low ∙ at) own.own

  pub apart_in : (n m : ℕ) (a b : Table) → slice_get our_tables n ≡ Some a → slice_get our_tables m ≡ Some b → n < m → m < k → tree_of s a.name ≢ tree_of s b.name
  apart_in n m a b at_n at_m less low = trees_apart s (take k our_tables) n m a b (slice_get-take k our_tables n (omega (arith, less, low)) ∙ at_n) (slice_get-take k our_tables m low ∙ at_m) less own.apart

  -- in whichever order they stand
  pub apart_both : (n m : ℕ) (a b : Table) → slice_get our_tables n ≡ Some a → slice_get our_tables m ≡ Some b → n < k → m < k → (n == m) ≡ false → tree_of s a.name ≢ tree_of s b.name
  apart_both n m a b at_n at_m low_n low_m other = by_order (nat_lt n m) refl
    where
      by_order : (c : Bool) → nat_lt n m ≡ c → tree_of s a.name ≢ tree_of s b.name
      by_order true less same = apart_in n m a b at_n at_m (grind (arith, nat_tests)) low_m same
      by_order false more same = apart_in m n b a at_m at_n (grind (arith, nat_tests)) low_n (sym same)

  pub steady_in : (n : ℕ) (table : Table) → n < k → slice_get our_tables n ≡ Some table → IsSteady s table
  steady_in n table low at = let it = followed_at n table at in by_parent it.0 it.1
    where
      by_parent : (o : Option ℕ) → IsFollowing our_tables n table o → IsSteady s table
      by_parent None passive = inl passive
      by_parent (Some m) follows =
          inr (
            follows.1,
            follows_by s follows.1 table (own_in m follows.1 (omega (arith, low, follows.0)) follows.2) follows.3 follows.4,
            apart_in m n follows.1 table follows.2 at follows.0 low,
          )

own_taken : (s : Schema) (k : ℕ) (t : Tables) → AreOwn s (tables_in (take k (stored_tables t))) → AreOwn s (take k our_tables)
own_taken s k t = subst (AreOwn s) (tables_taken k t)

pub held_in : {R : Type 0} (x : Ours R) (k : ℕ) → x.place < k → (db : Database) (t : Tables) → HoldsAll db (take k (stored_tables t)) → IsHeld x.layout db (x.rows t)
held_in x k low db t h =
    let has = all-slice_get (HasRows db) (take k (stored_tables t)) x.place (stored_table x.layout (x.rows t)) (slice_get-take k (stored_tables t) x.place low ∙ x.at t) h.rows in
    let at : slice_get our_tables x.place ≡ Some x.layout.table = slice_get-map (λ (y : StoredTable). y.table) (stored_tables t) x.place ∙ ap (option_map (λ (y : StoredTable). y.table)) (x.at t) in
    let own = own_taken db.schema k t h.own in
    record {
      own = own_in db.schema k own x.place x.layout.table low at;
      steady = steady_in db.schema k own x.place x.layout.table low at;
      rows = has.rows;
      keyed = ascending_from_map _ (stored x.layout.cells) (x.rows t) has.keyed;
    }

pub holds_all : (db : Database) (t : Tables) → Holds db t → HoldsAll db (stored_tables t)
holds_all db t h = record { own = h.ours; rows = h.rows }

-- ---- in one that has them all

module _ (db : Database) (t : Tables) (h : Holds db t) where
  pub held : {R : Type 0} (x : Ours R) → IsHeld x.layout db (x.rows t)
  held x = held_in x (count_in SCHEMA_VERSION) x.low db t (holds_all db t h)

  pub orgs_held : IsHeld org_layout db t.orgs
  orgs_held = held orgs

  pub tokens_held : IsHeld token_layout db t.tokens
  tokens_held = held tokens

  pub wss_held : IsHeld ws_layout db t.wss
  wss_held = held wss

  pub versions_held : IsHeld version_layout db t.versions
  versions_held = held versions

  pub runs_held : IsHeld run_layout db t.runs
  runs_held = held runs

  pub pages_held : IsHeld page_layout db t.pages
  pages_held = held pages

  pub vpages_held : IsHeld vpage_layout db t.vpages
  vpages_held = held vpages

  pub bounds_held : IsHeld bound_layout db t.bounds
  bounds_held = held bounds

  pub retentions_held : IsHeld retention_layout db t.retentions
  retentions_held = held retentions
