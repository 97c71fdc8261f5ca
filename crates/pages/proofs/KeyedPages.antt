-- Where each page has the key of its bytes, it has it after a page was put, under a key that this may have, and after one was released.
use Rattle.pages.proofs.Outside.{◌≡◌, ◌⊎◌, inl, inr, ℕ, ◌+◌, ◌-◌, nat_lt, Bool, true, false, cond, List, [], ◌∷◌, IsSome, Option, Some, None, sym, AllByRecursion, next_key, all-filter, all-append, Kept, id_of, PageRow, Tables, all_updated}
use Rattle.pages.specs.declared.rows.PageUse.{PageUse}
use Rattle.pages.specs.Pages.{IsKeyFor}
use Rattle.pages.specs.Puts.{free_twin, put_found, page_put, released_found, page_released}
use Rattle.pages.specs.Rows.{is_page, page_added, page_used, page_removed, page_uses, equal_page}

module _ (key_of : List ℕ → List ℕ) where
  abbrev IsKeyed : Kept PageRow → Type 0
  IsKeyed x = key_of x.1.bytes ≡ x.1.key

  abbrev pub AreKeyed : Tables → Type 0
  AreKeyed t = AllByRecursion IsKeyed t.pages

  added_keyed : (key : List ℕ) (twin : ℕ) (bytes : List ℕ) (t : Tables) → key_of bytes ≡ key → AreKeyed t → AreKeyed (page_added key twin bytes t)
  added_keyed key twin bytes t own keyed = all-append IsKeyed t.pages ((next_key id_of t.pages, record { key = key; twin = twin; bytes = bytes; uses = 1 }) ∷ []) keyed (own, tt)

  used_keyed : (key : List ℕ) (twin uses : ℕ) (t : Tables) → AreKeyed t → AreKeyed (page_used key twin uses t)
  used_keyed key twin uses t keyed = all_updated IsKeyed (is_page key twin) (λ x. (x.0, record x.1 { uses = uses })) (λ x is. is) t.pages keyed

  removed_keyed : (key : List ℕ) (twin : ℕ) (t : Tables) → AreKeyed t → AreKeyed (page_removed key twin t)
  removed_keyed key twin t keyed = all-filter IsKeyed _ t.pages keyed

  pub put_keyed : (key bytes : List ℕ) (t : Tables) → IsKeyFor key_of bytes key t → AreKeyed t → AreKeyed (page_put key bytes t)
  put_keyed key bytes t fits keyed = go (equal_page key bytes t) fits
    where
      go : (o : Option PageUse) → (key ≡ key_of bytes) ⊎ IsSome o → AreKeyed (put_found key bytes o t)
      go None (inl own) = added_keyed key (free_twin key t) bytes t (sym own) keyed
      go None (inr some) = absurd (let no_one : ⊥ = cc in no_one)
      go (Some found) is = used_keyed key found.twin (found.uses + 1) t keyed

  pub released_keyed : (key : List ℕ) (twin : ℕ) (t : Tables) → AreKeyed t → AreKeyed (page_released key twin t)
  released_keyed key twin t keyed = by_uses (page_uses key twin t)
    where
      by_uses : (o : Option ℕ) → AreKeyed (released_found key twin o t)
      by_uses None = keyed
      by_uses (Some uses) = go (nat_lt 1 uses)
        where
          go : (b : Bool) → AreKeyed (cond b (page_used key twin (uses - 1) t) (page_removed key twin t))
          go true = used_keyed key twin (uses - 1) t keyed
          go false = removed_keyed key twin t keyed
