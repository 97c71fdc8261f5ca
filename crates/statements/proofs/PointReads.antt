-- What a query over one of our tables reads of its rows, whatever else stands in the database.
use Rattle.statements.proofs.Outside.{◌≡◌, ◌<ℤ◌, ℕ, pos, Bool, false, List, [], ◌∷◌, map, filter, find, length, slice_get, Option, Some, None, option_map, ap, ◌∙◌, subst, Ordering, Less, Equal, int_cmp, nat_cmp, list_all, ordering_then, Binary, Null, Int, Row, value_cmp, count, lit, holds, eval_all, Query, page, output, output_cmp, overlay, Schema, Table, Select, State, IsKeyedBy, sort_by, ascending-filter, IsNoTie}
use Rattle.statements.specs.Place.{tree_of, IsOwn}
use Rattle.statements.specs.Rows.{Kept, id_of, stored}
use Rattle.statements.specs.Calls.{FirstRow, Pins}
use Rattle.statements.proofs.Meaning.{Means}
use Rattle.statements.proofs.Writes.{plain_program}
use Rattle.statements.proofs.Own.{stored_tree}
use Rattle.statements.proofs.Answered.{answered, point, ranked, ranked_is, tally, first_is, count_answer, untied_up, in_order_of_numbers}
use Rattle.statements.proofs.Sorting.{and_key, sorted_same}

pub pinned : {A X : Type 0} (Is : Row → X → Type 0) (show : A → Row) (val : A → X) → ((x : A) (y : X) → Is (show x) y → y ≡ val x) → (row : Option Row) (o : Option A) → row ≡ option_map show o
    → Pins Is row (option_map val o)
pinned Is show val back None None is = tt
pinned Is show val back None (Some x) is = absurd (cc)
pinned Is show val back (Some row) None is = absurd (cc)
pinned Is show val back (Some row) (Some x) is = λ y reported. let same : row ≡ show x = cc in back x y (subst (λ r. Is r y) same reported)

module _ {R : Type 0} (cells : R → Row) (table : Table) (old new : State) (own : IsOwn old.now.schema table)
    (xs : List (Kept R)) (held : old.now.trees (tree_of old.now.schema table.name) ≡ map (stored cells) xs) (keyed : IsKeyedBy id_of xs) (text : List ℕ) (params : Row)
    (row : Option Row) (first : FirstRow text params old new row) (rest : Query) (names : List (List ℕ))
    (p : Kept R → Bool) (tests : (x : Kept R) → list_all (holds (params ∷ stored cells x ∷ [])) rest.filter ≡ p x) where
  abbrev s : Schema
  s = old.now.schema

  abbrev here : ℕ
  here = tree_of s table.name

  abbrev seen : overlay old.now.trees [] here ≡ map (stored cells) xs
  seen = stored_tree old.now.trees here own.place.low ∙ held

  abbrev show : Kept R → Row
  show x = eval_all rest.project (params ∷ stored cells x ∷ [])

  module _ {X : Type 0} (Is : Row → X → Type 0) (val : Kept R → X) (back : (x : Kept R) (y : X) → Is (show x) y → y ≡ val x) where
    pub first_own : Means s (Select (plain_program (point rest here false)) names) text → ((l : List Row) → slice_get (page (point rest here false) params l) 0 ≡ slice_get l 0)
        → Pins Is row (option_map val (find p xs))
    first_own means whole =
        let got = answered text params old new (point rest here false) names means row first in
        pinned Is show val back row (find p xs) (got.2 ∙ first_is cells (overlay old.now.trees []) here xs seen keyed rest params p tests whole got.0 got.1)

    pub ranked_own : (column : ℕ) (descending : Bool) (order : Kept R → Kept R → Ordering) → ((x y : Kept R) → int_cmp (id_of x) (id_of y) ≡ Less → IsNoTie (order x y))
        → ((x y : Kept R) → output_cmp (ranked rest here column descending) (output (ranked rest here column descending) (params ∷ stored cells x ∷ [])) (output (ranked rest here column descending) (params ∷ stored cells y ∷ [])) ≡ order x y)
        → Means s (Select (plain_program (ranked rest here column descending)) names) text → ((l : List Row) → slice_get (page (ranked rest here column descending) params l) 0 ≡ slice_get l 0)
        → Pins Is row (option_map val (slice_get (sort_by order (filter p xs)) 0))
    ranked_own column descending order untied is means at =
        let got = answered text params old new (ranked rest here column descending) names means row first in
        pinned Is show val back row (slice_get (sort_by order (filter p xs)) 0) (got.2 ∙ ranked_is cells (overlay old.now.trees []) here xs seen keyed rest params p tests column descending order untied is at got.0 got.1)

    -- the first by a number: of rows of one number that which stands first
    pub least_own : (column : ℕ) (num : Kept R → ℕ)
        → ((x y : Kept R) → output_cmp (ranked rest here column false) (output (ranked rest here column false) (params ∷ stored cells x ∷ [])) (output (ranked rest here column false) (params ∷ stored cells y ∷ []))
        ≡ ordering_then (value_cmp (Int (pos (num x))) (Int (pos (num y)))) (ordering_then (value_cmp (Int (id_of x)) (Int (id_of y))) Equal))
        → Means s (Select (plain_program (ranked rest here column false)) names) text → ((l : List Row) → slice_get (page (ranked rest here column false) params l) 0 ≡ slice_get l 0)
        → Pins Is row (option_map val (slice_get (sort_by (λ x y. nat_cmp (num x) (num y)) (filter p xs)) 0))
    least_own column num is means at =
        let order = λ (x y : Kept R). nat_cmp (num x) (num y) in
        subst (λ (l : List (Kept R)). Pins Is row (option_map val (slice_get l 0))) (sorted_same id_of order (filter p xs) (ascending-filter (λ x y. id_of x <ℤ id_of y) p xs keyed))
        (ranked_own column false (and_key id_of order) (λ x y. untied_up (order x y) (id_of x) (id_of y)) (λ x y. is x y ∙ in_order_of_numbers (num x) (num y) (id_of x) (id_of y)) means at)

  pub count_own : Means s (Select (plain_program (tally rest here Binary (lit Null))) names) text
      → ((l : List Row) → page (tally rest here Binary (lit Null)) params l ≡ l) → row ≡ Some (count (length (filter p xs)) ∷ [])
  count_own means whole =
      let got = answered text params old new (tally rest here Binary (lit Null)) names means row first in
      let rows = count_answer cells (overlay old.now.trees []) here xs seen keyed rest params p tests Binary (lit Null) got.0 got.1 in
      got.2 ∙ ap (λ l. slice_get l 0) (rows ∙ whole _)
