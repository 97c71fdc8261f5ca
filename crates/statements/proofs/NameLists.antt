-- Rows in the order of their names, as the entries of a finite map.
use Rattle.statements.proofs.Outside.{◌≡◌, ℕ, Bool, true, false, cond, ◌&&◌, List, [], ◌∷◌, map, filter, take, refl, sym, ap, ◌∙◌, subst, Ordering, Equal, is_eq, bytes_eq, list_all, AllByRecursion, AllZip, ordering_then, nat_list_cmp_total, from_entries, entries, take-map, is_eq-slice_cmp, Text, Row, value_cmp, value_cmp-Text, then-Equal, IsAscending, Env, holds, eval_all, Query, Join, output, output_cmp, page, Table, Select, State, Shown, overlay, sort_by, AreApart, map-map, filter-map, filter_all, all_of, ascending_weaker, ascending-filter, turn_eq, equal_bytes}
use Rattle.std.proofs.lemmas.Cmp.{on_total}
use Rattle.statements.specs.Place.{tree_of, IsOwn}
use Rattle.statements.specs.Rows.{Kept, OrgRow, TokenRow, WsRow, stored}
use Rattle.statements.specs.Changes.{is_org, is_token, is_ws_of, is_ws}
use Rattle.statements.specs.Calls.{FirstRows}
use Rattle.statements.specs.Listings.{text_cmp, is_token_of}
use Rattle.statements.proofs.Meaning.{Means}
use Rattle.statements.proofs.Writes.{plain_program}
use Rattle.statements.proofs.Sorting.{filter_both, filter-sort_by, entries_sorted_by}
use Rattle.statements.proofs.Listed.{joined_listing, Ends, first_rows_are, all_rows_are, read_as}

pub by_text : (a b : List ℕ) → ordering_then (value_cmp (Text a) (Text b)) Equal ≡ text_cmp a b
by_text a b = then-Equal _ ∙ value_cmp-Text a b

names_differ : (a b : List ℕ) → bytes_eq b a ≡ false → is_eq (text_cmp a b) ≡ false
names_differ a b h = turn_eq text_cmp nat_list_cmp_total a b ∙ is_eq-slice_cmp b a ∙ h

pub orgs_apart : (xs : List (Kept OrgRow)) → AreApart (λ a b. is_org a.1.name b) xs → IsAscending (λ x y. is_eq (text_cmp x.1.name y.1.name) ≡ false) xs
orgs_apart xs apart = ascending_weaker (λ a b. is_org a.1.name b ≡ false) (λ x y. is_eq (text_cmp x.1.name y.1.name) ≡ false) (λ x y h. names_differ x.1.name y.1.name h) xs apart

-- rows of one owner that are apart by owner and name have different names
module _ {R : Type 0} (owner name : R → List ℕ) where
  abbrev is_of : List ℕ → Kept R → Bool
  is_of org x = bytes_eq (owner x.1) org

  abbrev is_named : List ℕ → List ℕ → Kept R → Bool
  is_named org n x = bytes_eq (owner x.1) org && bytes_eq (name x.1) n

  differ : (org : List ℕ) (x y : Kept R) → is_of org x ≡ true → is_of org y ≡ true → is_named (owner x.1) (name x.1) y ≡ false → is_eq (text_cmp (name x.1) (name y.1)) ≡ false
  differ org x y mine yours apart =
      let one : bytes_eq (owner y.1) (owner x.1) ≡ true = ap (bytes_eq (owner y.1)) (equal_bytes (owner x.1) org mine) ∙ yours in
      names_differ (name x.1) (name y.1) (sym (ap (λ b. b && bytes_eq (name y.1) (name x.1)) one) ∙ apart)

  pub apart_of : (org : List ℕ) (xs : List (Kept R)) → AreApart (λ a b. is_named (owner a.1) (name a.1) b) xs → IsAscending (λ x y. is_eq (text_cmp (name x.1) (name y.1)) ≡ false) (filter (is_of org) xs)
  apart_of org [] apart = tt
  apart_of org (x ∷ xs) apart = go (is_of org x) refl (apart_of org xs apart.1)
    where
      below : is_of org x ≡ true → (ys : List (Kept R)) → AllByRecursion (λ y. is_named (owner x.1) (name x.1) y ≡ false) ys → AllByRecursion (λ y. is_eq (text_cmp (name x.1) (name y.1)) ≡ false) (filter (is_of org) ys)
      below mine [] all = tt
      below mine (y ∷ ys) all = pick (is_of org y) refl (below mine ys all.1)
        where
          pick : (b : Bool) → is_of org y ≡ b → AllByRecursion (λ z. is_eq (text_cmp (name x.1) (name z.1)) ≡ false) (filter (is_of org) ys)
              → AllByRecursion (λ z. is_eq (text_cmp (name x.1) (name z.1)) ≡ false) (cond b (y ∷ filter (is_of org) ys) (filter (is_of org) ys))
          pick true e more = (differ org x y mine e all.0, more)
          pick false e more = more

      go : (b : Bool) → is_of org x ≡ b → IsAscending (λ x y. is_eq (text_cmp (name x.1) (name y.1)) ≡ false) (filter (is_of org) xs)
          → IsAscending (λ x y. is_eq (text_cmp (name x.1) (name y.1)) ≡ false) (cond b (x ∷ filter (is_of org) xs) (filter (is_of org) xs))
      go true e more = (below e xs apart.0, more)
      go false e more = more

-- the workspaces of one organization have different names, and so have its tokens
pub wss_apart : (org : List ℕ) (xs : List (Kept WsRow)) → AreApart (λ a b. is_ws a.1.org a.1.name b) xs → IsAscending (λ x y. is_eq (text_cmp x.1.name y.1.name) ≡ false) (filter (is_ws_of org) xs)
wss_apart = apart_of (λ (r : WsRow). r.org) (λ r. r.name)

pub tokens_apart : (org : List ℕ) (xs : List (Kept TokenRow)) → AreApart (λ a b. is_token a.1.org a.1.name b) xs → IsAscending (λ x y. is_eq (text_cmp x.1.name y.1.name) ≡ false) (filter (is_token_of org) xs)
tokens_apart = apart_of (λ (r : TokenRow). r.org) (λ r. r.name)

module _ {R : Type 0} (cells : R → Row) (table : Table) (old new : State) (own : IsOwn old.now.schema table)
    (xs : List (Kept R)) (held : old.now.trees (tree_of old.now.schema table.name) ≡ map (stored cells) xs) (text : List ℕ) (params : Row)
    (rest : Query) (column : ℕ) (names : List (List ℕ)) (more : Join) (extra : Kept R → Env) (ends : Ends (overlay old.now.trees []) (λ (x : Kept R). params ∷ stored cells x ∷ []) more extra)
    {V X : Type 0} (Is : Row → X → Type 0) (name_of : Kept R → List ℕ) (value_of : Kept R → V) (shape : List ℕ × V → X)
    (back : (x : Kept R) (y : X) → Is (eval_all rest.project (params ∷ stored cells x ∷ extra x)) y → y ≡ shape (name_of x, value_of x)) where
  abbrev place : ℕ
  place = tree_of old.now.schema table.name

  abbrev entry : Kept R → List ℕ × V
  entry x = (name_of x, value_of x)

  abbrev by_name : Kept R → Kept R → Ordering
  by_name x y = text_cmp (name_of x) (name_of y)

  abbrev show : Kept R → Row
  show x = eval_all rest.project (params ∷ stored cells x ∷ extra x)

  abbrev asked : Query
  asked = joined_listing rest place more column

  module _ (is : (x y : Kept R) → output_cmp asked (output asked (params ∷ stored cells x ∷ extra x)) (output asked (params ∷ stored cells y ∷ extra y)) ≡ by_name x y)
      (means : Means old.now.schema (Select (plain_program asked) names) text) where
    pub names_within : (most : ℕ) → ((l : List Row) → take most (page asked params l) ≡ take most l) → (mine : Kept R → Bool) (later : List ℕ → Bool) → ((x : Kept R) → list_all (holds (params ∷ stored cells x ∷ extra x)) rest.filter ≡ (mine x && later (name_of x)))
        → IsAscending (λ x y. is_eq (by_name x y) ≡ false) (filter mine xs) → (rows : List Row) (ys : List X) → FirstRows most text params old new rows → AllZip Is rows ys
        → ys ≡ take most (map shape (filter (λ e. later e.0) (entries (from_entries {R = text_cmp} (map entry (filter mine xs))))))
    names_within most enough mine later tests apart rows ys first read =
        let passes = λ (x : Kept R). later (name_of x) in
        let p = λ (x : Kept R). mine x && passes x in
        let both = filter_both mine passes xs in
        let untied = subst (IsAscending (λ x y. is_eq (by_name x y) ≡ false)) (sym both) (ascending-filter (λ x y. is_eq (by_name x y) ≡ false) passes (filter mine xs) apart) in
        let listed = first_rows_are cells table old new own xs held text params rest column names more extra ends p tests by_name is untied means Is (λ x. shape (entry x)) back most enough rows first in
        let sorted : sort_by by_name (filter p xs) ≡ filter passes (sort_by by_name (filter mine xs)) =
        ap (sort_by by_name) both ∙ sym (filter-sort_by by_name (on_total name_of nat_list_cmp_total) passes (filter mine xs)) in
        let all = sort_by by_name (filter mine xs) in
        let taken : rows ≡ map show (take most (filter passes all)) = listed ∙ ap (λ l. take most (map show l)) sorted ∙ take-map show most (filter passes all) in
        let shaped : map (λ x. shape (entry x)) (filter passes all) ≡ map shape (filter (λ e. later e.0) (entries (from_entries {R = text_cmp} (map entry (filter mine xs))))) =
        sym (map-map shape entry (filter passes all)) ∙ ap (map shape) (sym (filter-map (λ e. later e.0) entry all)
        ∙ ap (filter (λ e. later e.0)) (sym (entries_sorted_by text_cmp nat_list_cmp_total name_of value_of (filter mine xs) apart))) in
        read_as Is show (λ x. shape (entry x)) back (take most (filter passes all)) rows ys taken read ∙ sym (take-map (λ x. shape (entry x)) most (filter passes all)) ∙ ap (take most) shaped

    pub own_names : ((l : List Row) → page asked params l ≡ l) → (mine : Kept R → Bool) → ((x : Kept R) → list_all (holds (params ∷ stored cells x ∷ extra x)) rest.filter ≡ mine x) → IsAscending (λ x y. is_eq (by_name x y) ≡ false) (filter mine xs)
        → (rows : List Row) (ys : List X) → Shown text params old new rows → AllZip Is rows ys → ys ≡ map shape (entries (from_entries {R = text_cmp} (map entry (filter mine xs))))
    own_names whole mine tests apart rows ys shown read =
        let sorted = all_rows_are cells table old new own xs held text params rest column names more extra ends mine tests by_name is apart means Is (λ x. shape (entry x)) back whole rows shown in
        read_as Is show (λ x. shape (entry x)) back (sort_by by_name (filter mine xs)) rows ys sorted read
        ∙ sym (map-map shape entry (sort_by by_name (filter mine xs))) ∙ ap (map shape) (sym (entries_sorted_by text_cmp nat_list_cmp_total name_of value_of (filter mine xs) apart))

    pub all_names : ((l : List Row) → page asked params l ≡ l) → ((x : Kept R) → list_all (holds (params ∷ stored cells x ∷ extra x)) rest.filter ≡ true) → IsAscending (λ x y. is_eq (by_name x y) ≡ false) xs
        → (rows : List Row) (ys : List X) → Shown text params old new rows → AllZip Is rows ys → ys ≡ map shape (entries (from_entries {R = text_cmp} (map entry xs)))
    all_names whole tests apart rows ys shown read =
        let any = λ (x : Kept R). true in
        let each : filter any xs ≡ xs = filter_all any xs (all_of (λ x. any x ≡ true) (λ x. refl) xs) in
        own_names whole any tests (subst (IsAscending (λ x y. is_eq (by_name x y) ≡ false)) (sym each) apart) rows ys shown read ∙ ap (λ l. map shape (entries (from_entries {R = text_cmp} (map entry l)))) each
