-- Behind the version with the number before a bound, none is left below it.
use Rattle.tables.proofs.Outside.{◌≡◌, ◌≤◌, ℕ, ◌+◌, Bool, true, false, not, cond, List, [], ◌∷◌, filter, slice_get, Option, Some, None, option_map, refl, sym, ap, ◌∙◌, subst, arith, Ordering, is_gt, IsTotalOrder, tied_itself, AllByRecursion, ordering_reverse, ltb-true, upto, delete_where, insert_sorted, sort_by, all_weaker, all_both, is_version, is_version_below, version_removed, version_cmp, oldest_below, Kept, VersionRow, Tables, AtMost, text_removed_versions}
use Rattle.std.proofs.lemmas.Map.Keys.{le_from_not_gt}
use Rattle.basis.specs.declared.rows.VersionRow.{VersionRow as Head}
use Rattle.tables.specs.Inner.Edits.{version_gone}
use Rattle.tables.proofs.Ordered.{versions_total}
use Rattle.tables.proofs.Sorted.{greater_is}
use Rattle.tables.proofs.TextLists.{all_passing, least}
use Rattle.tables.proofs.TextRows.{version_row_from, below_parts}

-- ---- the first of a list in order

module _ {X : Type 0} (cmp : X → X → Ordering) (total : IsTotalOrder cmp) where
  itself : (x : X) → AtMost cmp x x
  itself x = ap is_gt (tied_itself total x)

  put_first : (y : X) (s : List X) (x : X) → slice_get (insert_sorted cmp y s) 0 ≡ Some x → AtMost cmp x y × ((z : X) → slice_get s 0 ≡ Some z → AtMost cmp x z)
  put_first y [] x e = let same : y ≡ x = cc in (subst (λ v. AtMost cmp v y) same (itself y), λ z f. absurd (let none : ⊥ = cc in none))
  put_first y (w ∷ ws) x e = go (is_gt (cmp y w)) refl e
    where
      go : (b : Bool) → is_gt (cmp y w) ≡ b → slice_get (cond b (w ∷ insert_sorted cmp y ws) (y ∷ w ∷ ws)) 0 ≡ Some x → AtMost cmp x y × ((z : X) → slice_get (w ∷ ws) 0 ≡ Some z → AtMost cmp x z)
      go true above h =
          let same : w ≡ x = cc in
          let under : AtMost cmp w y = ap is_gt (total.antisymm w y) ∙ ap (λ o. is_gt (ordering_reverse o)) (greater_is (cmp y w) above) in
          (subst (λ v. AtMost cmp v y) same under, λ z f. let one : w ≡ z = cc in subst (λ v. AtMost cmp x v) one (subst (λ v. AtMost cmp v w) same (itself w)))
      go false above h =
          let same : y ≡ x = cc in
          (subst (λ v. AtMost cmp v y) same (itself y), λ z f. let one : w ≡ z = cc in subst (λ v. AtMost cmp x v) one (subst (λ v. AtMost cmp v w) same above))

  none_first : (y : X) (s : List X) → slice_get (insert_sorted cmp y s) 0 ≡ None → ⊥
  none_first y [] e = let none : ⊥ = cc in none
  none_first y (w ∷ ws) e = go (is_gt (cmp y w)) e
    where
      go : (b : Bool) → slice_get (cond b (w ∷ insert_sorted cmp y ws) (y ∷ w ∷ ws)) 0 ≡ None → ⊥
      go true h = let none : ⊥ = cc in none
      go false h = let none : ⊥ = cc in none

  all_of_none : (P : X → Type 0) (xs : List X) → slice_get (sort_by cmp xs) 0 ≡ None → AllByRecursion P xs
  all_of_none P [] e = tt
  all_of_none P (y ∷ ys) e = absurd (none_first y (sort_by cmp ys) e)

  -- no other is less
  first_is_least : (xs : List X) (x : X) → slice_get (sort_by cmp xs) 0 ≡ Some x → AllByRecursion (AtMost cmp x) xs
  first_is_least [] x e = tt
  first_is_least (y ∷ ys) x e =
      let here = put_first y (sort_by cmp ys) x e in
      (here.0, rest (slice_get (sort_by cmp ys) 0) refl here.1 (first_is_least ys))
    where
      rest : (o : Option X) → slice_get (sort_by cmp ys) 0 ≡ o → ((z : X) → slice_get (sort_by cmp ys) 0 ≡ Some z → AtMost cmp x z) → ((z : X) → slice_get (sort_by cmp ys) 0 ≡ Some z → AllByRecursion (AtMost cmp z) ys)
          → AllByRecursion (AtMost cmp x) ys
      rest None f up more = all_of_none (AtMost cmp x) ys f
      rest (Some z) f up more = all_weaker (AtMost cmp z) (AtMost cmp x) (λ w over. upto total x z w (up z f) over) ys (more z f)

-- where all that pass go, none passes
emptied : {X : Type 0} (p q : X → Bool) (xs : List X) → AllByRecursion (λ x. p x ≡ true) (filter q xs) → filter q (delete_where p xs) ≡ []
emptied p q [] all = refl
emptied p q (y ∷ ys) all = go (p y) (q y) refl refl all (emptied p q ys)
  where
    go : (a b : Bool) → p y ≡ a → q y ≡ b → AllByRecursion (λ x. p x ≡ true) (cond b (y ∷ filter q ys) (filter q ys)) → (AllByRecursion (λ x. p x ≡ true) (filter q ys) → filter q (delete_where p ys) ≡ [])
        → filter q (cond (not a) (y ∷ delete_where p ys) (delete_where p ys)) ≡ []
    go true true e f h more = more h.1
    go true false e f h more = more h
    go false true e f h more = absurd (let none : ⊥ = cc (sym e ∙ h.0) in none)
    go false false e f h more = rw f (more h)

-- ---- versions

module _ (org ws : List ℕ) (below : ℕ) (t : Tables) (head : Head) (last : below ≤ head.number + 1) where
  one_number : (x y : Kept VersionRow) → x.1.it ≡ head → AtMost version_cmp x y → is_version_below org ws below y ≡ true → is_version org ws head.number y ≡ true
  one_number x y is up passes =
      let parts = below_parts org ws below y passes in
      let over : x.1.it.number ≤ y.1.it.number = le_from_not_gt x.1.it.number y.1.it.number up in
      let under = ltb-true y.1.it.number below parts.1.1 in
      let of_head : x.1.it.number ≡ head.number = ap (λ (h : Head). h.number) is in
      let same : y.1.it.number ≡ head.number = omega (arith, over, under, of_head, last) in
      version_row_from org ws head.number y parts.0 parts.1.0 same

  pub none_behind_last : oldest_below org ws below t ≡ Some head → oldest_below org ws below (version_gone org ws head t) ≡ None
  none_behind_last found = go (least version_cmp (is_version_below org ws below) t.versions) refl found
    where
      go : (r : Option (Kept VersionRow)) → least version_cmp (is_version_below org ws below) t.versions ≡ r → option_map (λ (x : Kept VersionRow). x.1.it) r ≡ Some head → oldest_below org ws below (version_gone org ws head t) ≡ None
      go None e is = absurd (let none : ⊥ = cc in none)
      go (Some x) e is =
          let same : x.1.it ≡ head = cc in
          let q = is_version_below org ws below in
          let all = all_both (AtMost version_cmp x) (λ y. q y ≡ true) (λ y. is_version org ws head.number y ≡ true) (λ y up passes. one_number x y same up passes) (filter q t.versions)
          (first_is_least version_cmp versions_total (filter q t.versions) x e) (all_passing q t.versions) in
          ap (λ (vs : List (Kept VersionRow)). option_map (λ (y : Kept VersionRow). y.1.it) (slice_get (sort_by version_cmp (filter q vs)) 0)) (text_removed_versions org ws head.number head.size (version_removed org ws head.number t))
          ∙ ap (λ (vs : List (Kept VersionRow)). option_map (λ (y : Kept VersionRow). y.1.it) (slice_get (sort_by version_cmp vs) 0)) (emptied (is_version org ws head.number) q t.versions all)
