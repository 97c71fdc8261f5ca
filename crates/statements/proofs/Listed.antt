-- The rows of one of our tables in an order with no ties, as a function of typed rows.
use Rattle.statements.proofs.Outside.{◌≡◌, inl, inr, ℕ, ◌≤◌, ◌==◌, ℤ, pos, Bool, false, cond, ◌&&◌, List, [], ◌∷◌, ◌++◌, map, flat_map, filter, take, length, None, refl, sym, ap, ◌∙◌, subst, arith, Ordering, Equal, int_cmp, nat_cmp, is_eq, IsPermutation, nat_lt, list_all, AllZip, ordering_then, take_all, take-take, take-append-le, take-map, nat_cmp_total, on_total, Binary, Key, Null, Int, Row, value_cmp, value_cmp-Int, then-Equal, Trees, IsAscending, Term, Env, col, holds, eval_all, Query, Join, Output, inner, end, matches, output, output_cmp, as_count, limited, page, IsAnswer, overlay, Schema, Table, Select, State, Shown, Begins, reads_as, begins_as, sort_by, map-map, flat_map-map, flat_map_same_on, filter_as_flat_map, filter_same, filter-map, ascending-map, ascending_weaker, ascending-filter}
use Rattle.sqlite_sql.proofs.QueryLemmas.{output_cmp_total}
use Rattle.sqlite_keyed.proofs.SortLemmas.{HasNoTies, sorted_is-sort_by, sort_by-map}
use Rattle.statements.specs.Place.{tree_of, IsOwn}
use Rattle.statements.specs.Rows.{Kept, stored}
use Rattle.statements.specs.Calls.{FirstRows, LimitsTo}
use Rattle.statements.proofs.Meaning.{Means}
use Rattle.statements.proofs.Writes.{plain_program}
use Rattle.statements.proofs.Own.{stored_tree}
use Rattle.statements.proofs.Sorting.{filter_both, filter-sort_by}
use Rattle.statements.proofs.Conditions.{same_int}
use Rattle.statements.proofs.Answered.{by_natural}

-- a query for rows of one table in the order of a column, each with what further steps of FROM add to it
abbrev pub sorted_by : ℕ → List (Term × Key)
sorted_by column = (col 1 column, record { collation = Binary; descending = false }) ∷ []

abbrev pub joined_listing : Query → ℕ → Join → ℕ → Query
joined_listing rest tree more column = record rest { from = inner tree more; group = None; distinct = false; order = sorted_by column }

abbrev pub listing : Query → ℕ → ℕ → Query
listing rest tree column = joined_listing rest tree end column

-- each row of the table is matched once, if at all: the steps behind it add these rows to it
abbrev pub Ends : {A : Type 0} → Trees → (A → Env) → Join → (A → Env) → Type 0
Ends {A} db before more extra = (terms : List Term) (x : A) → matches db terms more (before x) ≡ cond (list_all (holds (before x ++ extra x)) terms) ((before x ++ extra x) ∷ []) []

module _ {R : Type 0} (cells : R → Row) (db : Trees) (tree : ℕ) (xs : List (Kept R)) (held : db tree ≡ map (stored cells) xs)
    (rest : Query) (column : ℕ) (params : Row) (more : Join) (extra : Kept R → Env) (ends : Ends db (λ (x : Kept R). params ∷ stored cells x ∷ []) more extra)
    (p : Kept R → Bool) (tests : (x : Kept R) → list_all (holds (params ∷ stored cells x ∷ extra x)) rest.filter ≡ p x) where
  abbrev q : Query
  q = joined_listing rest tree more column

  abbrev whole_row : Kept R → Env
  whole_row x = params ∷ stored cells x ∷ extra x

  abbrev out : Kept R → Output
  out x = output q (whole_row x)

  abbrev show : Kept R → Row
  show x = eval_all rest.project (whole_row x)

  matched : matches db rest.filter (inner tree more) (params ∷ []) ≡ map whole_row (filter p xs)
  matched =
      let below = λ (r : Row). matches db rest.filter more (params ∷ r ∷ []) in
      let passes = λ (e : Env). list_all (holds e) rest.filter in
      let kept = λ (e : Env). cond (passes e) (e ∷ []) [] in
      ap (flat_map below) held ∙ flat_map-map below (stored cells) xs
      ∙ flat_map_same_on _ (λ x. kept (whole_row x)) (λ x. ends rest.filter x) xs
      ∙ sym (filter_as_flat_map passes _ ∙ flat_map-map kept whole_row xs)
      ∙ filter-map passes whole_row xs ∙ ap (map whole_row) (filter_same _ p tests xs)

  arranged : (rows : List Row) (a : IsAnswer q db params rows) → IsPermutation (map out (filter p xs)) a.ordered
  arranged rows a = subst (λ l. IsPermutation l a.ordered) (a.distinct ∙ ap (map (output q)) (a.grouped ∙ matched) ∙ map-map (output q) _ _) a.same

  module _ (order : Kept R → Kept R → Ordering) (is : (x y : Kept R) → output_cmp q (out x) (out y) ≡ order x y) (apart : IsAscending (λ x y. is_eq (order x y) ≡ false) (filter p xs)) where
    in_order : (rows : List Row) (a : IsAnswer q db params rows) → a.ordered ≡ map out (sort_by order (filter p xs))
    in_order rows a =
        let untied : HasNoTies (output_cmp q) (output_cmp_total q) (map out (filter p xs)) =
        ascending-map (λ x y. is_eq (output_cmp q x y) ≡ false) out (filter p xs) (subst (λ (o : Kept R → Kept R → Ordering). IsAscending (λ x y. is_eq (o x y) ≡ false) (filter p xs)) (λ i x y. sym (is x y) i) apart) in
        sorted_is-sort_by (output_cmp q) (output_cmp_total q) _ a.ordered untied (arranged rows a) a.sorted
        ∙ sort_by-map (output_cmp q) out (filter p xs) ∙ (λ i. map out (sort_by (λ x y. is x y i) (filter p xs)))

    pub listed_is : (rows : List Row) → IsAnswer q db params rows → rows ≡ page q params (map show (sort_by order (filter p xs)))
    listed_is rows a = a.shown ∙ ap (page q params) (ap (map (λ (o : Output). o.1)) (in_order rows a) ∙ map-map (λ (o : Output). o.1) out _)

module _ {X : Type 0} where
  pub front_is : (n : ℕ) (xs ys all : List X) → all ≡ xs ++ ys → length xs ≡ n → xs ≡ take n all
  front_is n xs ys all is long = sym (ap (take n) is ∙ take-append-le n xs ys (omega (arith, long)) ∙ take_all n xs (omega (arith, long)))

  pub whole_is : (n : ℕ) (xs all : List X) → all ≡ xs → length xs ≤ n → xs ≡ take n all
  whole_is n xs all is long = sym (ap (take n) is ∙ take_all n xs long)

-- of the rows that LIMIT lets through, the first ones are those of all
pub limit_enough : {X : Type 0} (most : ℕ) (n : ℤ) → LimitsTo most n → (l : List X) → take most (limited (as_count (Int n)) l) ≡ take most l
limit_enough most n (inl h) l = ap (λ z. take most (limited (as_count (Int z)) l)) h.1 ∙ take-take most most l (omega arith)
limit_enough most n (inr h) l = ap (λ z. take most (limited (as_count (Int z)) l)) h.1

-- rows that are read as values are read as these
pub read_as : {A X : Type 0} (Is : Row → X → Type 0) (show : A → Row) (val : A → X) → ((x : A) (y : X) → Is (show x) y → y ≡ val x) → (zs : List A) (rows : List Row) (xs : List X)
    → rows ≡ map show zs → AllZip Is rows xs → xs ≡ map val zs
read_as Is show val back [] [] [] e all = refl
read_as Is show val back [] [] (x ∷ xs) e all = absurd all
read_as Is show val back [] (r ∷ rows) xs e all = absurd (cc)
read_as Is show val back (z ∷ zs) [] xs e all = absurd (cc)
read_as Is show val back (z ∷ zs) (r ∷ rows) [] e all = absurd all
read_as Is show val back (z ∷ zs) (r ∷ rows) (x ∷ xs) e all =
    let here : r ≡ show z = cc in
    let more : rows ≡ map show zs = cc in
    λ i. back z x (subst (λ l. Is l x) here all.0) i ∷ read_as Is show val back zs rows xs more all.1 i

module _ (text : List ℕ) (params : Row) (old new : State) (q : Query) (names : List (List ℕ)) (m : Means old.now.schema (Select (plain_program q) names) text) where
  begun : (rows : List Row) → Begins text params old rows → (tail : List Row) × IsAnswer q (overlay old.now.trees []) params (rows ++ tail)
  begun rows h = let got = (begins_as text params old new old.now.schema refl (Select (plain_program q) names) m.0 m.1 m.2 rows h).1 in (got.0, got.1 Null)

  shown : (rows : List Row) → Shown text params old new rows → IsAnswer q (overlay old.now.trees []) params rows
  shown rows h = (reads_as text params old new old.now.schema refl (Select (plain_program q) names) m.0 m.1 m.2 rows h).answer Null

  pub first_listed : (most : ℕ) (rows all : List Row) → ((l : List Row) → IsAnswer q (overlay old.now.trees []) params l → l ≡ all) → FirstRows most text params old new rows → rows ≡ take most all
  first_listed most rows all is (inl h) = let got = begun rows h.0 in front_is most rows got.0 all (sym (is (rows ++ got.0) got.1)) h.1
  first_listed most rows all is (inr h) = whole_is most rows all (sym (is rows (shown rows h.0))) h.1

  pub all_listed : (rows all : List Row) → ((l : List Row) → IsAnswer q (overlay old.now.trees []) params l → l ≡ all) → Shown text params old new rows → rows ≡ all
  all_listed rows all is h = is rows (shown rows h)

module _ {R : Type 0} (cells : R → Row) (table : Table) (old new : State) (own : IsOwn old.now.schema table)
    (xs : List (Kept R)) (held : old.now.trees (tree_of old.now.schema table.name) ≡ map (stored cells) xs) (text : List ℕ) (params : Row)
    (rest : Query) (column : ℕ) (names : List (List ℕ)) (more : Join) (extra : Kept R → Env) (ends : Ends (overlay old.now.trees []) (λ (x : Kept R). params ∷ stored cells x ∷ []) more extra)
    (p : Kept R → Bool) (tests : (x : Kept R) → list_all (holds (params ∷ stored cells x ∷ extra x)) rest.filter ≡ p x) where
  abbrev s : Schema
  s = old.now.schema

  abbrev here : ℕ
  here = tree_of s table.name

  abbrev sees : Kept R → Row
  sees x = eval_all rest.project (params ∷ stored cells x ∷ extra x)

  abbrev asked : Query
  asked = joined_listing rest here more column

  module _ (order : Kept R → Kept R → Ordering) (is : (x y : Kept R) → output_cmp asked (output asked (params ∷ stored cells x ∷ extra x)) (output asked (params ∷ stored cells y ∷ extra y)) ≡ order x y)
      (apart : IsAscending (λ x y. is_eq (order x y) ≡ false) (filter p xs)) (means : Means s (Select (plain_program asked) names) text)
      {X : Type 0} (Is : Row → X → Type 0) (val : Kept R → X) (back : (x : Kept R) (y : X) → Is (sees x) y → y ≡ val x) where
    only : (l : List Row) → IsAnswer asked (overlay old.now.trees []) params l → l ≡ page asked params (map sees (sort_by order (filter p xs)))
    only = listed_is cells (overlay old.now.trees []) here xs (stored_tree old.now.trees here own.place.low ∙ held) rest column params more extra ends p tests order is apart

    pub first_rows_are : (most : ℕ) → ((l : List Row) → take most (page asked params l) ≡ take most l) → (rows : List Row) → FirstRows most text params old new rows → rows ≡ take most (map sees (sort_by order (filter p xs)))
    first_rows_are most enough rows h = first_listed text params old new asked names means most rows _ only h ∙ enough _

    pub all_rows_are : ((l : List Row) → page asked params l ≡ l) → (rows : List Row) → Shown text params old new rows → rows ≡ map sees (sort_by order (filter p xs))
    all_rows_are whole rows h = all_listed text params old new asked names means rows _ only h ∙ whole _

-- ---- rows in the order of their numbers

pub by_column : (m n : ℕ) → ordering_then (value_cmp (Int (pos m)) (Int (pos n))) Equal ≡ int_cmp (pos m) (pos n)
by_column m n = then-Equal _ ∙ value_cmp-Int (pos m) (pos n)

-- a list of rows above a number, of which no two have one
module _ {R : Type 0} (cells : R → Row) (table : Table) (old new : State) (own : IsOwn old.now.schema table)
    (xs : List (Kept R)) (held : old.now.trees (tree_of old.now.schema table.name) ≡ map (stored cells) xs) (text : List ℕ) (params : Row)
    (rest : Query) (column : ℕ) (names : List (List ℕ)) {X : Type 0} (Is : Row → X → Type 0) (number_of : X → ℕ) (val : Kept R → X) (mine : Kept R → Bool) (after : ℕ)
    (tests : (x : Kept R) → list_all (holds (params ∷ stored cells x ∷ [])) rest.filter ≡ (mine x && nat_lt after (number_of (val x))))
    (back : (x : Kept R) (y : X) → Is (eval_all rest.project (params ∷ stored cells x ∷ [])) y → y ≡ val x) where
  abbrev num : Kept R → ℕ
  num x = number_of (val x)

  abbrev place : ℕ
  place = tree_of old.now.schema table.name

  abbrev numbered : Kept R → Kept R → Ordering
  numbered x y = int_cmp (pos (num x)) (pos (num y))

  abbrev by_num : Kept R → Kept R → Ordering
  by_num x y = nat_cmp (num x) (num y)

  abbrev is_after : Kept R → Bool
  is_after x = nat_lt after (num x)

  untied : IsAscending (λ x y. (num x == num y) ≡ false) (filter mine xs) → IsAscending (λ x y. is_eq (numbered x y) ≡ false) (filter (λ x. mine x && is_after x) xs)
  untied apart =
      subst (IsAscending (λ x y. is_eq (numbered x y) ≡ false)) (sym (filter_both mine is_after xs))
      (ascending-filter (λ x y. is_eq (numbered x y) ≡ false) is_after (filter mine xs)
      (ascending_weaker (λ x y. (num x == num y) ≡ false) (λ x y. is_eq (numbered x y) ≡ false) (λ x y e. same_int (num x) (num y) ∙ e) (filter mine xs) apart))

  sorted_after : sort_by numbered (filter (λ x. mine x && is_after x) xs) ≡ filter is_after (sort_by by_num (filter mine xs))
  sorted_after =
      (λ i. sort_by (λ x y. by_natural (num x) (num y) i) (filter (λ x. mine x && is_after x) xs)) ∙ ap (sort_by by_num) (filter_both mine is_after xs)
      ∙ sym (filter-sort_by by_num (on_total num nat_cmp_total) is_after (filter mine xs))

  pub numbered_are : ((x y : Kept R) → output_cmp (listing rest place column) (output (listing rest place column) (params ∷ stored cells x ∷ [])) (output (listing rest place column) (params ∷ stored cells y ∷ [])) ≡ numbered x y)
      → Means old.now.schema (Select (plain_program (listing rest place column)) names) text → ((l : List Row) → page (listing rest place column) params l ≡ l)
      → (most : ℕ) (rows : List Row) (ys : List X) → IsAscending (λ x y. (num x == num y) ≡ false) (filter mine xs) → FirstRows most text params old new rows → AllZip Is rows ys
      → ys ≡ take most (filter (λ y. nat_lt after (number_of y)) (map val (sort_by by_num (filter mine xs))))
  numbered_are is means whole most rows ys apart first read =
      let p = λ (x : Kept R). mine x && is_after x in
      let show = λ (x : Kept R). eval_all rest.project (params ∷ stored cells x ∷ []) in
      let listed = filter is_after (sort_by by_num (filter mine xs)) in
      let sorted = first_rows_are cells table old new own xs held text params rest column names end (λ _. []) (λ terms x. refl) p tests numbered is (untied apart) means Is val back most (λ l. ap (take most) (whole l)) rows first in
      let taken : rows ≡ map show (take most listed) = sorted ∙ ap (λ l. take most (map show l)) sorted_after ∙ take-map show most listed in
      read_as Is show val back (take most listed) rows ys taken read ∙ sym (take-map val most listed)
      ∙ ap (take most) (sym (filter-map (λ y. nat_lt after (number_of y)) val (sort_by by_num (filter mine xs))))
