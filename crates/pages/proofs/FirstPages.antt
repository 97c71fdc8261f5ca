-- A page that is put by the first page of its key: where there is none, it is the key's only one; where that has the bytes, it is the one that is used again.
use Rattle.pages.proofs.Outside.{◌≡◌, ◌==◌, ℕ, ◌+◌, Bool, true, false, ◌&&◌, cond, List, [], ◌∷◌, find, is_some, Option, Some, None, IsSome, option_map, inr, refl, sym, ap, ◌∙◌, subst, arith, bytes_eq, Kept, PageRow, Tables}
use Rattle.pages.specs.declared.rows.FirstPage.{FirstPage}
use Rattle.pages.specs.declared.rows.PageUse.{PageUse}
use Rattle.pages.specs.Rows.{page_added, page_used, page_use, page_uses, equal_page, is_of_key, first_twin, compared, first_page}
use Rattle.pages.specs.Pages.{IsKeyFor}
use Rattle.pages.specs.Puts.{twin_limit, free_twin, twin_found, twin_for, put_found, page_put}
use Rattle.pages.specs.Inner.Calls.{put_with, twin_with, alike}
use Rattle.pages.proofs.FreeTwins.{free_begin, free_here}

module _ {X : Type 0} (p q : X → Bool) where
  none_narrower : (xs : List X) → find p xs ≡ None → find (λ x. p x && q x) xs ≡ None
  none_narrower [] e = refl
  none_narrower (x ∷ xs) e = go (p x) e (none_narrower xs)
    where
      go : (b : Bool) → cond b (Some x) (find p xs) ≡ None → (find p xs ≡ None → find (λ y. p y && q y) xs ≡ None) → cond (b && q x) (Some x) (find (λ y. p y && q y) xs) ≡ None
      go true e more = absurd (let none : ⊥ = cc in none)
      go false e more = more e

  -- the first that passes one test, where it passes the other, is the first that passes both
  first_narrower : (xs : List X) (x : X) → find p xs ≡ Some x → q x ≡ true → find (λ y. p y && q y) xs ≡ Some x
  first_narrower [] x e is = absurd (let none : ⊥ = cc in none)
  first_narrower (y ∷ ys) x e is = go (p y) e (first_narrower ys x)
    where
      go : (b : Bool) → cond b (Some y) (find p ys) ≡ Some x → (find p ys ≡ Some x → q x ≡ true → find (λ z. p z && q z) ys ≡ Some x) → cond (b && q y) (Some y) (find (λ z. p z && q z) ys) ≡ Some x
      go true e more = let same : y ≡ x = cc in let passes : q y ≡ true = ap q same ∙ is in rw passes e
      go false e more = more e is

module _ (key bytes : List ℕ) (t : Tables) where
  none_equal : find (is_of_key key) t.pages ≡ None → equal_page key bytes t ≡ None
  none_equal none = ap (option_map page_use) (none_narrower (is_of_key key) (λ x. bytes_eq x.1.bytes bytes) t.pages none)

  none_kept : find (is_of_key key) t.pages ≡ None → page_uses key 0 t ≡ None
  none_kept none = ap (option_map (λ (x : Kept PageRow). x.1.uses)) (none_narrower (is_of_key key) (λ x. x.1.twin == 0) t.pages none)

  first_free : find (is_of_key key) t.pages ≡ None → free_twin key t ≡ 0
  first_free none = sym (free_begin key t) ∙ free_here key twin_limit 0 t (omega arith) (none_kept none)

  first_equal : (x : Kept PageRow) → find (is_of_key key) t.pages ≡ Some x → bytes_eq x.1.bytes bytes ≡ true → equal_page key bytes t ≡ Some (page_use x)
  first_equal x found same = ap (option_map page_use) (first_narrower (is_of_key key) (λ y. bytes_eq y.1.bytes bytes) t.pages x found same)

  -- where the first page of the key has the bytes, it is the page of the key that has them
  alike_is : (found : PageUse) → alike (first_page key bytes t) ≡ Some found → equal_page key bytes t ≡ Some found
  alike_is found is = go (find (is_of_key key) t.pages) refl is
    where
      go : (o : Option (Kept PageRow)) → find (is_of_key key) t.pages ≡ o → alike (option_map (compared bytes) o) ≡ Some found → equal_page key bytes t ≡ Some found
      go None none is = absurd (let no_one : ⊥ = cc in no_one)
      go (Some x) there is = by_bytes (bytes_eq x.1.bytes bytes) refl is
        where
          by_bytes : (b : Bool) → bytes_eq x.1.bytes bytes ≡ b → cond b (Some (page_use x)) None ≡ Some found → equal_page key bytes t ≡ Some found
          by_bytes true same is = first_equal x there same ∙ is
          by_bytes false other is = absurd (let no_one : ⊥ = cc in no_one)

  pub put_with_is : put_with key bytes (first_twin key t) t ≡ page_put key bytes t
  put_with_is = go (find (is_of_key key) t.pages) refl
    where
      go : (o : Option (Kept PageRow)) → find (is_of_key key) t.pages ≡ o → put_with key bytes (option_map (λ (x : Kept PageRow). x.1.twin) o) t ≡ page_put key bytes t
      go None none = sym (ap (λ o. put_found key bytes o t) (none_equal none) ∙ ap (λ n. page_added key n bytes t) (first_free none))
      go (Some x) found = refl

  pub twin_with_is : twin_with key bytes (first_twin key t) t ≡ twin_for key bytes t
  twin_with_is = go (find (is_of_key key) t.pages) refl
    where
      go : (o : Option (Kept PageRow)) → find (is_of_key key) t.pages ≡ o → twin_with key bytes (option_map (λ (x : Kept PageRow). x.1.twin) o) t ≡ twin_for key bytes t
      go None none = sym (ap (λ o. twin_found key o t) (none_equal none) ∙ first_free none)
      go (Some x) found = refl

-- so it is where the key that was asked for is this one
pub found_equal : (asked key bytes : List ℕ) (t : Tables) (first : Option FirstPage) (found : PageUse) → asked ≡ key → first ≡ first_page asked bytes t → alike first ≡ Some found → equal_page key bytes t ≡ Some found
found_equal asked key bytes t first found named seen same =
    let shown : first_page key bytes t ≡ first = sym (seen ∙ ap (λ (k : List ℕ). first_page k bytes t) named) in
    alike_is key bytes t found (ap alike shown ∙ same)

module _ (key bytes : List ℕ) (t : Tables) (found : PageUse) (equal : equal_page key bytes t ≡ Some found) where
  -- the page of the key that has the bytes: to put them is one use more of it
  pub used_is_put : page_used key found.twin (found.uses + 1) t ≡ page_put key bytes t
  used_is_put = ap (λ o. put_found key bytes o t) (sym equal)

  pub found_twin : found.twin ≡ twin_for key bytes t
  found_twin = ap (λ o. twin_found key o t) (sym equal)

  pub found_fits : (key_of : List ℕ → List ℕ) (name : List ℕ) → name ≡ key → IsKeyFor key_of bytes name t
  found_fits key_of name named = inr (subst (λ (k : List ℕ). IsSome (equal_page k bytes t)) (sym named) (ap is_some equal))
