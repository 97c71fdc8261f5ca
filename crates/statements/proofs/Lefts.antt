-- LEFT JOIN with a table of which no more than one row matches.
use Rattle.statements.proofs.Outside.{◌≡◌, Bool, true, false, cond, List, [], ◌∷◌, ◌++◌, map, filter, flat_map, find, Option, Some, None, append-nil, refl, sym, ap, ◌∙◌, list_all, AllByRecursion, Row, Trees, IsAscending, Term, Env, holds, Join, left, matches, or_nulls, filter-map, filter_same, filter_none, ℕ, bytes_eq, and_parts, equal_bytes}
use Rattle.statements.specs.Rows.{Kept, Owned}
use Rattle.statements.specs.Changes.{is_of}

-- the row that was found, or one with no column
abbrev pub row_or : {Y : Type 0} → (Y → Row) → Option Y → Row
row_or cells None = []
row_or cells (Some y) = cells y

-- where one passes, none behind it does
abbrev pub PassesOnce : {Y : Type 0} → (Y → Bool) → List Y → Type 0
PassesOnce p = IsAscending (λ a b. p a ≡ true → p b ≡ false)

module _ {Y : Type 0} (cells : Y → Row) (p : Y → Bool) where
  no_other : (y : Y) (ys : List Y) → p y ≡ true → AllByRecursion (λ z. p y ≡ true → p z ≡ false) ys → AllByRecursion (λ z. p z ≡ false) ys
  no_other y [] passes all = tt
  no_other y (z ∷ zs) passes all = (all.0 passes, no_other y zs passes all.1)

  only_one : (ys : List Y) → PassesOnce p ys → or_nulls (map cells (filter p ys)) ≡ row_or cells (find p ys) ∷ []
  only_one [] once = refl
  only_one (y ∷ ys) once = go (p y) refl (only_one ys once.1)
    where
      go : (b : Bool) → p y ≡ b → or_nulls (map cells (filter p ys)) ≡ row_or cells (find p ys) ∷ [] → or_nulls (map cells (cond b (y ∷ filter p ys) (filter p ys))) ≡ row_or cells (cond b (Some y) (find p ys)) ∷ []
      go true passes later = ap (λ l. cells y ∷ map cells l) (filter_none p ys (no_other y ys passes once.0))
      go false passes later = later

  module _ (db : Trees) (tree : ℕ) (ys : List Y) (held : db tree ≡ map cells ys) (on : List Term) (env : Env) (tests : (y : Y) → list_all (holds (env ++ cells y ∷ [])) on ≡ p y) (once : PassesOnce p ys) where
    found_is : or_nulls (filter (λ r. list_all (holds (env ++ r ∷ [])) on) (db tree)) ≡ row_or cells (find p ys) ∷ []
    found_is =
        let passes = λ (r : Row). list_all (holds (env ++ r ∷ [])) on in
        ap (λ l. or_nulls (filter passes l)) held ∙ ap or_nulls (filter-map passes cells ys ∙ ap (map cells) (filter_same _ p tests ys)) ∙ only_one ys once

    -- the loops go on with that row
    pub left_is : (terms : List Term) (more : Join) → matches db terms (left tree on more) env ≡ matches db terms more (env ++ row_or cells (find p ys) ∷ [])
    left_is terms more =
        let below = λ (r : Row). matches db terms more (env ++ r ∷ []) in
        let last : below (row_or cells (find p ys)) ++ [] ≡ below (row_or cells (find p ys)) = rw append-nil refl in
        ap (flat_map below) found_is ∙ last

-- two rows of one organization and name clash
pub one_named : {T : Type 0} (org name : List ℕ) (a b : Kept (Owned T)) → is_of a.1.org a.1.name b ≡ false → is_of org name a ≡ true → is_of org name b ≡ false
one_named org name a b apart mine =
    let same = and_parts (bytes_eq a.1.org org) (bytes_eq a.1.name name) mine in
    let one = equal_bytes a.1.org org same.0 in
    let two = equal_bytes a.1.name name same.1 in
    sym (λ i. is_of (one i) (two i) b) ∙ apart
