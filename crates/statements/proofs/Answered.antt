-- The first row of an answer, as a function of typed rows.
use Rattle.statements.proofs.Outside.{◌≡◌, ℕ, ℤ, pos, Bool, false, List, [], ◌∷◌, map, filter, find, length, slice_get, Option, Some, None, option_map, refl, sym, ap, ◌∙◌, subst, arith, Ordering, Less, Equal, Greater, int_cmp, nat_cmp, is_eq, map-id, list_all, AllZip, ordering_then, ints, nat_tests, slice_get-map, length_permutation, Collation, Binary, Key, value_cmp, length-map, Null, Int, Row, value_cmp-Int, then-Equal, Trees, CountRows, count, Env, Term, col, eval, holds, eval_all, Grouping, IsSummary, value_over, Query, Output, inner, end, output, output_cmp, page, IsAnswer, overlay, only_one, Select, State, first_as, reads_as, IsKeyedBy, sort_by, slice_get-filter}
use Rattle.std.specs.List.Sorted.{IsPermutation}
use Rattle.sqlite_typed.proofs.AnswerLemmas.{Source, last_table, at_end, answer_by_keys, answer_sorted, IsNoTie, no_tie_after, count_is}
use Rattle.statements.specs.Rows.{Kept, id_of, stored}
use Rattle.statements.specs.Calls.{FirstRow}
use Rattle.statements.proofs.Meaning.{Means}
use Rattle.statements.proofs.Writes.{plain_program}

module _ (text : List ℕ) (params : Row) (old new : State) (q : Query) (names : List (List ℕ)) (m : Means old.now.schema (Select (plain_program q) names) text) where
  -- the row is the first of an answer
  pub answered : (row : Option Row) → FirstRow text params old new row → (rows : List Row) × IsAnswer q (overlay old.now.trees []) params rows × (row ≡ slice_get rows 0)
  answered None h = ([], (reads_as text params old new old.now.schema refl (Select (plain_program q) names) m.0 m.1 m.2 [] h).answer Null, refl)
  answered (Some row) h =
      let got = (first_as text params old new old.now.schema refl (Select (plain_program q) names) m.0 m.1 m.2 row h).1 in
      (row ∷ got.0, got.1 Null, refl)

-- ORDER BY rowid, or the other way round
abbrev pub by_rowid : Bool → List (Term × Key)
by_rowid descending = (col 1 0, record { collation = Binary; descending = descending }) ∷ []

-- ORDER BY a column and, where two rows have one value in it, rowid
abbrev pub by_column_and_rowid : ℕ → Bool → List (Term × Key)
by_column_and_rowid column descending = (col 1 column, record { collation = Binary; descending = descending }) ∷ by_rowid descending

-- a query for rows of one table in the order of a column, in which two may have one value
abbrev pub ranked : Query → ℕ → ℕ → Bool → Query
ranked rest tree column descending = record rest { from = inner tree end; group = None; distinct = false; order = by_column_and_rowid column descending }

-- a query for rows of one table in the order of their rowids
abbrev pub point : Query → ℕ → Bool → Query
point rest tree descending = record rest { from = inner tree end; group = None; distinct = false; order = by_rowid descending }

abbrev pub count_group : Collation → Term → Grouping
count_group collation argument = record { keys = []; collations = []; aggregates = record { op = CountRows; distinct = false; collation = collation; argument = argument } ∷ []; having = [] }

abbrev pub tally : Query → ℕ → Collation → Term → Query
tally rest tree collation argument = record rest { from = inner tree end; group = Some (count_group collation argument); distinct = false; project = col 1 0 ∷ []; order = [] }

in_order : (a b : ℤ) → ordering_then (value_cmp (Int a) (Int b)) Equal ≡ int_cmp a b
in_order a b = then-Equal _ ∙ value_cmp-Int a b

pub in_order_of_both : (m n a b : ℤ) → ordering_then (value_cmp (Int m) (Int n)) (ordering_then (value_cmp (Int a) (Int b)) Equal) ≡ ordering_then (int_cmp m n) (int_cmp a b)
in_order_of_both m n a b = λ i. ordering_then (value_cmp-Int m n i) (in_order a b i)

-- rowids break the ties of numbers
pub untied_down : (m n a b : ℤ) → int_cmp a b ≡ Less → IsNoTie (ordering_then (int_cmp n m) (int_cmp b a))
untied_down m n a b h = no_tie_after (int_cmp n m) (let above : int_cmp b a ≡ Greater = grind (arith, ints) in record { apart = ap is_eq above })

pub untied_up : (o : Ordering) (a b : ℤ) → int_cmp a b ≡ Less → IsNoTie (ordering_then o (int_cmp a b))
untied_up o a b h = no_tie_after o (record { apart = ap is_eq h })

pub by_natural : (m n : ℕ) → int_cmp (pos m) (pos n) ≡ nat_cmp m n
by_natural m n = grind (arith, ints, nat_tests)

-- numbers are compared as natural ones are
pub in_order_of_numbers : (m n : ℕ) (a b : ℤ) → ordering_then (value_cmp (Int (pos m)) (Int (pos n))) (ordering_then (value_cmp (Int a) (Int b)) Equal) ≡ ordering_then (nat_cmp m n) (int_cmp a b)
in_order_of_numbers m n a b = in_order_of_both (pos m) (pos n) a b ∙ ap (λ (o : Ordering). ordering_then o (int_cmp a b)) (by_natural m n)

module _ {R : Type 0} (cells : R → Row) (db : Trees) (tree : ℕ) (xs : List (Kept R)) (held : db tree ≡ map (stored cells) xs) (keyed : IsKeyedBy id_of xs)
    (rest : Query) (params : Row) (p : Kept R → Bool) (tests : (x : Kept R) → list_all (holds (params ∷ stored cells x ∷ [])) rest.filter ≡ p x) where
  abbrev source : Source db (inner tree end) (Kept R)
  source = last_table db tree (stored cells) id_of xs held keyed (at_end db)

  abbrev show : Kept R → Row
  show x = eval_all rest.project (params ∷ stored cells x ∷ [])

  pub first_is : ((l : List Row) → slice_get (page (point rest tree false) params l) 0 ≡ slice_get l 0) → (rows : List Row) → IsAnswer (point rest tree false) db params rows
      → slice_get rows 0 ≡ option_map show (find p xs)
  first_is first rows a =
      let all = answer_by_keys (point rest tree false) db params source p tests (λ r. r) show (λ x. refl) refl refl (λ x y. in_order (id_of x) (id_of y)) rows a in
      ap (λ l. slice_get l 0) (sym (map-id rows) ∙ all) ∙ first (map show (filter p xs)) ∙ slice_get-map show (filter p xs) 0 ∙ ap (option_map show) (slice_get-filter p xs)

  -- the first row in the order of a column
  pub ranked_is : (column : ℕ) (descending : Bool) (order : Kept R → Kept R → Ordering) → ((x y : Kept R) → int_cmp (id_of x) (id_of y) ≡ Less → IsNoTie (order x y))
      → ((x y : Kept R) → output_cmp (ranked rest tree column descending) (output (ranked rest tree column descending) (params ∷ stored cells x ∷ [])) (output (ranked rest tree column descending) (params ∷ stored cells y ∷ [])) ≡ order x y)
      → ((l : List Row) → slice_get (page (ranked rest tree column descending) params l) 0 ≡ slice_get l 0) → (rows : List Row) → IsAnswer (ranked rest tree column descending) db params rows
      → slice_get rows 0 ≡ option_map show (slice_get (sort_by order (filter p xs)) 0)
  ranked_is column descending order untied is at rows a =
      let all = answer_sorted (ranked rest tree column descending) db params source p tests (λ r. r) show (λ x. refl) refl refl order untied is rows a in
      ap (λ l. slice_get l 0) (sym (map-id rows) ∙ all) ∙ at (map show (sort_by order (filter p xs))) ∙ slice_get-map show (sort_by order (filter p xs)) 0

  -- the rows in the order of their rowids
  pub all_are : ((l : List Row) → page (point rest tree false) params l ≡ l) → (rows : List Row) → IsAnswer (point rest tree false) db params rows → rows ≡ map show (filter p xs)
  all_are whole rows a =
      sym (map-id rows) ∙ answer_by_keys (point rest tree false) db params source p tests (λ r. r) show (λ x. refl) refl refl (λ x y. in_order (id_of x) (id_of y)) rows a ∙ whole (map show (filter p xs))

  module _ (collation : Collation) (argument : Term) where
    abbrev q : Query
    q = tally rest tree collation argument

    abbrev n : ℕ
    n = length (filter p xs)

    one_value : (order : List Env) → length order ≡ n → (vs : Row) → AllZip (λ a v. value_over order a ≡ Some v) (count_group collation argument).aggregates vs → vs ≡ count n ∷ []
    one_value order long [] k = absurd k
    one_value order long (v ∷ u ∷ vs) k = absurd k.1
    one_value order long (v ∷ []) k =
        let same : count (length (map (eval argument) order)) ≡ v = let e = k.0 in cc in
        ap (λ y. y ∷ []) (sym same ∙ ap count (length-map order (eval argument) ∙ long))

    one_row : (order : List Env) → length order ≡ n → (rows : List Row) → AllZip (IsSummary (count_group collation argument)) (order ∷ []) rows → rows ≡ (count n ∷ []) ∷ []
    one_row order long [] h = absurd h
    one_row order long (r ∷ s ∷ rows) h = absurd h.1
    one_row order long (r ∷ []) h = ap (λ v. v ∷ []) (h.0.2 ∙ one_value order long h.0.0 h.0.1)

    -- SELECT count(*): one row, with the number of rows that pass
    pub count_answer : (rows : List Row) → IsAnswer q db params rows → rows ≡ page q params ((count n ∷ []) ∷ [])
    count_answer rows a =
        let made = a.grouped in
        let long = length_permutation _ _ made.grouping.1 ∙ count_is q db params source p tests in
        let row = one_row made.grouping.0 long made.rows (subst (λ g. AllZip (IsSummary (count_group collation argument)) g made.rows) made.grouping.2 made.summaries) in
        let staged : a.staged ≡ (params ∷ (count n ∷ []) ∷ []) ∷ [] = made.having ∙ ap (λ l. filter (λ env. list_all (holds env) []) (map (λ r. params ∷ r ∷ []) l)) row in
        let kept : a.kept ≡ ([], count n ∷ []) ∷ [] = a.distinct ∙ ap (map (output q)) staged in
        let ordered = only_one ([], count n ∷ []) a.ordered (subst (λ k. IsPermutation k a.ordered) kept a.same) in
        a.shown ∙ ap (λ l. page q params (map (λ (o : Output). o.1) l)) ordered
