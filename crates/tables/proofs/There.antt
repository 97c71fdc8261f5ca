-- Which tables are there in a database of each version.
use Rattle.tables.proofs.Outside.{◌≡◌, ◌≤◌, ◌<◌, ℕ, zero, suc, nat_lt, Bool, true, false, true≢false, not, ◌&&◌, ◌||◌, is_some, List, length, [], ◌∷◌, take, drop, map, refl, sym, ap, ◌∙◌, subst, arith, AllByRecursion, list_any, list_all, and_from, and_parts, take-map, drop-map, list_all-map, nat_tests, Schema, Table, table_named, Database, is_known, count_in, our_tables, schema_tables, tables_at, more_tables, most_tables, SCHEMA_VERSION}
use Rattle.statements.specs.Place.{IsOwn}
use Rattle.statements.proofs.Held.{tables_taken}
use Rattle.tables.specs.Opened.{RefusesOthers}
use Rattle.tables.specs.Opening.{any_there, all_there, newest_there, has_edition, is_meta, is_edition, has_versions, has_our_columns, later_there, older_there, has_older}
use Rattle.tables.specs.Stores.{is_in_schema}
use Rattle.tables.specs.Versions.{HoldsSchema}

own_there : (s : Schema) (tables : List Table) → AllByRecursion (IsOwn s) tables → list_all (is_in_schema s) tables ≡ true
own_there s [] own = refl
own_there s (t ∷ tables) own = and_from _ _ (ap is_some own.0.place.named) (own_there s tables own.1)

-- a database of some version has all tables of that, and none of a later one
pub version_is_there : (n : ℕ) (db : Database) → HoldsSchema n db → all_there n db.schema ≡ true
version_is_there n db h =
    and_from _ _ h.known (and_from _ _ (own_there db.schema (schema_tables n) (subst (AllByRecursion (IsOwn db.schema)) (tables_taken (count_in n) (tables_at n db)) h.holds.own.own)) (ap not h.alone))

-- ---- no database has the tables of two versions

pub known_there : (n : ℕ) (s : Schema) → all_there n s ≡ true → is_known n ≡ true
known_there n s e = (and_parts (is_known n) _ e).0

-- of the first ones all pass, and so one does of those behind fewer
some_behind : {A : Type 0} (p : A → Bool) (xs : List A) (j k : ℕ) → j < k → k ≤ length xs → list_all p (take k xs) ≡ true → list_any p (drop j xs) ≡ true
some_behind p [] j k low most all = absurd (omega (arith, low, most))
some_behind p (x ∷ xs) j zero low most all = absurd (omega (arith, low))
some_behind p (x ∷ xs) zero (suc k) low most all = ap (λ (b : Bool). b || list_any p xs) (and_parts (p x) (list_all p (take k xs)) all).0
some_behind p (x ∷ xs) (suc j) (suc k) low most all = some_behind p xs j k (omega arith) (omega arith) (and_parts (p x) (list_all p (take k xs)) all).1

apart : (m n : ℕ) (s : Schema) → m < n → all_there m s ≡ true → all_there n s ≡ true → ⊥
apart m n s low e f =
    let lacks = (and_parts (list_all (is_in_schema s) (schema_tables m)) _ (and_parts (is_known m) _ e).1).1 in
    let has = (and_parts (list_all (is_in_schema s) (schema_tables n)) _ (and_parts (is_known n) _ f).1).0 in
    true≢false (sym lacks ∙ ap not (some_behind (is_in_schema s) our_tables (count_in m) (count_in n) (more_tables m n low (known_there n s f)) (most_tables n) has))

pub one_there : (m n : ℕ) (s : Schema) → all_there m s ≡ true → all_there n s ≡ true → m ≡ n
one_there m n s e f = by_order (nat_lt m n) (nat_lt n m) refl refl
  where
    by_order : (b c : Bool) → nat_lt m n ≡ b → nat_lt n m ≡ c → m ≡ n
    by_order true c below above = absurd (apart m n s (grind (arith, nat_tests)) e f)
    by_order false true below above = absurd (apart n m s (grind (arith, nat_tests)) f e)
    by_order false false below above = grind (arith, nat_tests)

-- ---- no older version is there

or_right : (a b : Bool) → b ≡ true → (a || b) ≡ true
or_right true b e = refl
or_right false b e = e

older_is : (m n : ℕ) (s : Schema) → m < n → all_there m s ≡ true → older_there n s ≡ true
older_is m zero s low e = absurd (omega (arith, low))
older_is m (suc n) s low e = by_order (λ below. older_is m n s below e) (nat_lt m n) refl
  where
    by_order : (m < n → older_there n s ≡ true) → (b : Bool) → nat_lt m n ≡ b → older_there (suc n) s ≡ true
    by_order before true below = ap (λ (b : Bool). b || all_there n s) (before (grind (arith, nat_tests)))
    by_order before false below = or_right (older_there n s) (all_there n s) (subst (λ (k : ℕ). all_there k s ≡ true) (grind (arith, nat_tests)) e)

later_is_older : (n : ℕ) (s : Schema) → later_there n s ≡ true → older_there (suc n) s ≡ true
later_is_older zero s e = absurd (true≢false (sym e))
later_is_older (suc zero) s e = absurd (true≢false (sym e))
later_is_older (suc (suc n)) s e = by_earlier (later_is_older (suc n) s) (later_there (suc n) s) refl e
  where
    by_earlier : (later_there (suc n) s ≡ true → older_there (suc (suc n)) s ≡ true) → (b : Bool) → later_there (suc n) s ≡ b → (b || all_there (suc (suc n)) s) ≡ true → older_there (suc (suc (suc n))) s ≡ true
    by_earlier before true is e = ap (λ (b : Bool). b || all_there (suc (suc n)) s) (before is)
    by_earlier before false is e = or_right (older_there (suc (suc n)) s) (all_there (suc (suc n)) s) e

last_there : (n : ℕ) (s : Schema) → later_there n s ≡ true → older_there n s ≡ false → all_there n s ≡ true
last_there n s e none = ap (λ (b : Bool). b || all_there n s) (sym none) ∙ later_is_older n s e

holds : (b : Bool) → (b ≡ false → ⊥) → b ≡ true
holds true h = refl
holds false h = absurd (h refl)

holds_if : (a b : Bool) → (a ≡ true → b ≡ false → ⊥) → (not a || b) ≡ true
holds_if true b h = holds b (h refl)
holds_if false b h = refl

-- an open that upgrades none of an older version finds the newest, if it finds one of our tables and refuses nothing
pub newest_stays : (s : Schema) → any_there s ≡ true → RefusesOthers s ⊥ → has_older s ≡ false → newest_there s ≡ true
newest_stays s any refuses none = by_first (all_there 1 s) refl
  where
    columns : has_our_columns s ≡ true
    columns = and_from _ _ (and_from _ _ (holds (is_meta s) (refuses.foreign any)) (holds (has_versions s) (refuses.older any))) (holds_if (has_edition s) (is_edition s) (refuses.edition any))

    no_older : older_there SCHEMA_VERSION s ≡ false
    no_older = ap (λ (b : Bool). b && older_there SCHEMA_VERSION s) (sym columns) ∙ none

    by_first : (b : Bool) → all_there 1 s ≡ b → newest_there s ≡ true
    by_first true is = absurd (true≢false (sym (older_is 1 SCHEMA_VERSION s (omega arith) is) ∙ no_older))
    by_first false is = last_there SCHEMA_VERSION s (holds (has_edition s) (refuses.missing any is)) no_older

-- ---- by their names

pub any_map : {A B : Type 0} (f : A → B) (p : B → Bool) (xs : List A) → list_any (λ x. p (f x)) xs ≡ list_any p (map f xs)
any_map f p [] = refl
any_map f p (x ∷ xs) = ap (λ (b : Bool). p (f x) || b) (any_map f p xs)

first_or : (a b : Bool) → a ≡ false → a ≡ (a && b)
first_or false b e = refl
first_or true b e = absurd (cc)

module _ {A : Type 0} (f : A → List ℕ) (s : Schema) (k : ℕ) (xs front back : List A) (same : map f xs ≡ map (λ (t : Table). t.name) our_tables) (front_is : front ≡ take k xs) (back_is : back ≡ drop k xs) where
  abbrev named : List ℕ → Bool
  named name = is_some (table_named s name)

  all_by_name : list_all (λ x. named (f x)) front ≡ list_all (is_in_schema s) (take k our_tables)
  all_by_name =
      ap (list_all (λ x. named (f x))) front_is ∙ sym (list_all-map named f (take k xs)) ∙ ap (list_all named) (sym (take-map f k xs) ∙ ap (take k) same ∙ take-map (λ (t : Table). t.name) k our_tables)
      ∙ list_all-map named (λ (t : Table). t.name) (take k our_tables)

  any_by_name : list_any (λ x. named (f x)) back ≡ list_any (is_in_schema s) (drop k our_tables)
  any_by_name =
      ap (list_any (λ x. named (f x))) back_is ∙ any_map f named (drop k xs) ∙ ap (list_any named) (sym (drop-map f k xs) ∙ ap (drop k) same ∙ drop-map (λ (t : Table). t.name) k our_tables)
      ∙ sym (any_map (λ (t : Table). t.name) named (drop k our_tables))

  abbrev Answer : Bool
  Answer = list_all (is_in_schema s) (take k our_tables) && not (list_any (is_in_schema s) (drop k our_tables))

  pub all_named_then : (a b : Bool) → a ≡ list_all (λ x. named (f x)) front → a ≡ true → b ≡ list_any (λ x. named (f x)) back → not b ≡ Answer
  all_named_then a b is every other = ap (λ (c : Bool). c && not b) (sym every ∙ is ∙ all_by_name) ∙ ap (λ (c : Bool). list_all (is_in_schema s) (take k our_tables) && not c) (other ∙ any_by_name)

  pub not_all_named : (a : Bool) → a ≡ list_all (λ x. named (f x)) front → a ≡ false → a ≡ Answer
  not_all_named a is none =
      first_or a (not (list_any (is_in_schema s) (drop k our_tables))) none ∙ ap (λ (c : Bool). c && not (list_any (is_in_schema s) (drop k our_tables))) (is ∙ all_by_name)
