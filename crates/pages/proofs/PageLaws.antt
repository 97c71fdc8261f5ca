-- What a page that is put, and one that is released, leave of the map of pages.
use Rattle.pages.proofs.Outside.{◌≡◌, ◌≢◌, ◌<◌, ◌≤◌, inl, inr, ℕ, ◌+◌, ◌-◌, nat_lt, Bool, true, false, cond, List, [], ◌∷◌, find, is_some, IsSome, Option, Some, None, option_map, refl, sym, ap, ◌∙◌, arith, bytes_eq, false_from_ne_true, and_from, eqb-true, eq-eqb, ltb-true, next_key, all_weaker, all-filter, all-append, Kept, id_of, PageRow, Tables, found_passes, find_changed, find_unchanged, find_deleted, find_left, find_pushed, find_pushed_other, found_holds, apart_one, all_updated, apart_pushed, none_passes}
use Rattle.std.specs.Prelude.{◌==◌}
use Rattle.std.proofs.lemmas.Slice.Eq.{bytes_eq-Decides}
use Rattle.std.proofs.lemmas.Option.{same_Some}
use Rattle.sqlite_keyed.proofs.RuleLemmas.{first_of_both, second_of_both, apart_update, apart_delete}
use Rattle.pages.specs.Rows.{is_page, is_equal_page, page_added, page_used, page_removed, page_uses, page_use}
use Rattle.pages.specs.Puts.{twin_limit, free_twin, twin_found, twin_for, put_found, page_put, released_found, page_released}
use Rattle.pages.specs.Pages.{Page, pages_in, HasSoundPages, KeepsOtherPages, IsNewPage, IsFreeTwin, PutsPage, ReleasesPage}
use Rattle.pages.proofs.FreeTwins.{free_is, free_least}

abbrev seen : Kept PageRow → Page
seen x = record { bytes = x.1.bytes; uses = x.1.uses }

abbrev with_uses : ℕ → Kept PageRow → Kept PageRow
with_uses uses x = (x.0, record x.1 { uses = uses })

-- ---- tests

page_key : (key : List ℕ) (twin : ℕ) (x : Kept PageRow) → is_page key twin x ≡ true → x.1.key ≡ key
page_key key twin x e = (bytes_eq-Decides x.1.key key).0 (first_of_both _ _ e)

page_twin : (key : List ℕ) (twin : ℕ) (x : Kept PageRow) → is_page key twin x ≡ true → x.1.twin ≡ twin
page_twin key twin x e = eqb-true x.1.twin twin (second_of_both _ _ e)

page_is : (key : List ℕ) (twin : ℕ) (x : Kept PageRow) → x.1.key ≡ key → x.1.twin ≡ twin → is_page key twin x ≡ true
page_is key twin x e f = and_from (bytes_eq x.1.key key) (x.1.twin == twin) ((bytes_eq-Decides x.1.key key).1 e) (eq-eqb x.1.twin twin f)

page_apart : (key : List ℕ) (twin : ℕ) (k : List ℕ) (n : ℕ) → ((k ≡ key) × (n ≡ twin) → ⊥) → (x : Kept PageRow) → is_page key twin x ≡ true → is_page k n x ≡ false
page_apart key twin k n apart x e = false_from_ne_true (is_page k n x) (λ f. apart (sym (page_key k n x f) ∙ page_key key twin x e, sym (page_twin k n x f) ∙ page_twin key twin x e))

equal_key : (key bytes : List ℕ) (x : Kept PageRow) → is_equal_page key bytes x ≡ true → x.1.key ≡ key
equal_key key bytes x e = (bytes_eq-Decides x.1.key key).0 (first_of_both _ _ e)

equal_bytes : (key bytes : List ℕ) (x : Kept PageRow) → is_equal_page key bytes x ≡ true → x.1.bytes ≡ bytes
equal_bytes key bytes x e = (bytes_eq-Decides x.1.bytes bytes).0 (second_of_both _ _ e)

equal_is : (key bytes : List ℕ) (x : Kept PageRow) → x.1.key ≡ key → x.1.bytes ≡ bytes → is_equal_page key bytes x ≡ true
equal_is key bytes x e f = and_from (bytes_eq x.1.key key) (bytes_eq x.1.bytes bytes) ((bytes_eq-Decides x.1.key key).1 e) ((bytes_eq-Decides x.1.bytes bytes).1 f)

-- ---- a page in other use, a page that went, a new one

module _ (key : List ℕ) (twin : ℕ) (t : Tables) where
  used_others : (uses : ℕ) → KeepsOtherPages key twin (pages_in t) (pages_in (page_used key twin uses t))
  used_others uses k n apart = ap (option_map seen) (find_unchanged (is_page k n) (is_page key twin) (page_apart key twin k n apart) (with_uses uses) (λ x. refl) t.pages)

  used_own : (uses : ℕ) (x : Kept PageRow) → find (is_page key twin) t.pages ≡ Some x → pages_in (page_used key twin uses t) key twin ≡ Some (record { bytes = x.1.bytes; uses = uses })
  used_own uses x f = ap (option_map seen) (find_changed (is_page key twin) (with_uses uses) (λ x. refl) t.pages ∙ ap (option_map (with_uses uses)) f)

  removed_others : KeepsOtherPages key twin (pages_in t) (pages_in (page_removed key twin t))
  removed_others k n apart = ap (option_map seen) (find_left (is_page k n) (is_page key twin) (page_apart key twin k n apart) t.pages)

  removed_own : pages_in (page_removed key twin t) key twin ≡ None
  removed_own = ap (option_map seen) (find_deleted (is_page key twin) t.pages)

  module _ (bytes : List ℕ) where
    abbrev new_row : Kept PageRow
    new_row = (next_key id_of t.pages, record { key = key; twin = twin; bytes = bytes; uses = 1 })

    added_others : KeepsOtherPages key twin (pages_in t) (pages_in (page_added key twin bytes t))
    added_others k n apart =
        ap (option_map seen) (find_pushed_other (is_page k n) t.pages new_row (false_from_ne_true (is_page k n new_row) (λ f. apart (sym (page_key k n new_row f), sym (page_twin k n new_row f)))))

    added_own : find (is_page key twin) t.pages ≡ None → pages_in (page_added key twin bytes t) key twin ≡ Some (record { bytes = bytes; uses = 1 })
    added_own none = ap (option_map seen) (find_pushed (is_page key twin) t.pages new_row none (page_is key twin new_row refl refl))

-- ---- put

pub no_row : (o : Option (Kept PageRow)) → option_map (λ (x : Kept PageRow). x.1.uses) o ≡ None → o ≡ None
no_row None e = refl
no_row (Some x) e = absurd (let no_one : ⊥ = cc in no_one)

some_row : (o : Option (Kept PageRow)) → is_some (option_map (λ (x : Kept PageRow). x.1.uses) o) ≡ true → IsSome (option_map seen o)
some_row None e = absurd (let no_one : ⊥ = cc in no_one)
some_row (Some x) e = refl

module _ (key bytes : List ℕ) (t : Tables) where
  not_there : free_twin key t < twin_limit → find (is_page key (free_twin key t)) t.pages ≡ None
  unfolding free_twin
  not_there fits = no_row (find (is_page key (free_twin key t)) t.pages) (free_is key twin_limit 0 t (omega (arith, fits)))

  twin_is_free : free_twin key t < twin_limit → IsFreeTwin (pages_in t) key (free_twin key t)
  unfolding free_twin
  twin_is_free fits = record { free = ap (option_map seen) (not_there fits); least = λ n below. some_row (find (is_page key n) t.pages) (under n below) }
    where
      under : (n : ℕ) → n < free_twin key t → is_some (page_uses key n t) ≡ true
      under n below = free_least key twin_limit 0 t n (omega arith) below

  is_new : find (is_equal_page key bytes) t.pages ≡ None → IsNewPage (pages_in t) key bytes
  is_new none n p there = by_row (find (is_page key n) t.pages) refl there
    where
      by_row : (o : Option (Kept PageRow)) → find (is_page key n) t.pages ≡ o → option_map seen o ≡ Some p → p.bytes ≢ bytes
      by_row None f e same = let no_one : ⊥ = cc in no_one
      by_row (Some x) f e same =
          let shown : seen x ≡ p = same_Some (seen x) p e in
          let other : is_equal_page key bytes x ≡ false = found_holds (λ y. is_equal_page key bytes y ≡ false) (is_page key n) t.pages x (none_passes (is_equal_page key bytes) t.pages none) f in
          let is = equal_is key bytes x (page_key key n x (found_passes (is_page key n) t.pages x f)) (ap (λ (q : Page). q.bytes) shown ∙ same) in
          let no_one : ⊥ = cc (sym is ∙ other) in no_one

  -- a row that is found by its bytes is found by its number
  found_by_twin : HasSoundPages t → (x : Kept PageRow) → find (is_equal_page key bytes) t.pages ≡ Some x → find (is_page key x.1.twin) t.pages ≡ Some x
  found_by_twin sound x e = by_row (find (is_page key x.1.twin) t.pages) refl
    where
      own : x.1.key ≡ key
      own = equal_key key bytes x (found_passes (is_equal_page key bytes) t.pages x e)

      by_row : (o : Option (Kept PageRow)) → find (is_page key x.1.twin) t.pages ≡ o → o ≡ Some x
      by_row None f =
          let other : is_page key x.1.twin x ≡ false = found_holds (λ y. is_page key x.1.twin y ≡ false) (is_equal_page key bytes) t.pages x (none_passes (is_page key x.1.twin) t.pages f) e in
          absurd (let no_one : ⊥ = cc (sym (page_is key x.1.twin x own refl) ∙ other) in no_one)
      by_row (Some y) f =
          let is = found_passes (is_page key x.1.twin) t.pages y f in
          let k = page_key key x.1.twin y is in
          let n = page_twin key x.1.twin y is in
          ap Some (apart_one (λ a b. is_page a.1.key a.1.twin b) (is_page key x.1.twin) (is_equal_page key bytes) t.pages y x sound.apart f e (page_is y.1.key y.1.twin x (own ∙ sym k) (sym n)) (page_is x.1.key x.1.twin y (k ∙ sym own) n))

  pub put_is : HasSoundPages t → twin_for key bytes t < twin_limit → PutsPage key bytes (twin_for key bytes t) (pages_in t) (pages_in (page_put key bytes t))
  put_is sound fits = by_row (find (is_equal_page key bytes) t.pages) refl fits
    where
      by_row : (o : Option (Kept PageRow)) → find (is_equal_page key bytes) t.pages ≡ o → twin_found key (option_map page_use o) t < twin_limit
          → PutsPage key bytes (twin_found key (option_map page_use o) t) (pages_in t) (pages_in (put_found key bytes (option_map page_use o) t))
      by_row None f low = record { page = inr (is_new f, twin_is_free low, added_own key (free_twin key t) t bytes (not_there low)); others = added_others key (free_twin key t) t bytes }
      by_row (Some x) f low =
          let own = found_by_twin sound x f in
          let same : x.1.bytes ≡ bytes = equal_bytes key bytes x (found_passes (is_equal_page key bytes) t.pages x f) in
          record {
            page = inl (seen x, ap (option_map seen) own, same, used_own key x.1.twin t (x.1.uses + 1) x own ∙ ap (λ (bs : List ℕ). Some (record { bytes = bs; uses = x.1.uses + 1 })) same);
            others = used_others key x.1.twin t (x.1.uses + 1);
          }

-- ---- the rules of pages are kept

used_keeps : (key : List ℕ) (twin uses : ℕ) (t : Tables) → 1 ≤ uses → HasSoundPages t → HasSoundPages (page_used key twin uses t)
used_keeps key twin uses t some sound = record {
  apart = apart_update (λ a b. is_page a.1.key a.1.twin b) (is_page key twin) (with_uses uses) (λ a b. refl) (λ a b. refl) t.pages sound.apart;
  differ = apart_update (λ a b. is_equal_page a.1.key a.1.bytes b) (is_page key twin) (with_uses uses) (λ a b. refl) (λ a b. refl) t.pages sound.differ;
  used = all_updated (λ x. 1 ≤ x.1.uses) (is_page key twin) (with_uses uses) (λ x _. some) t.pages sound.used;
}

removed_keeps : (key : List ℕ) (twin : ℕ) (t : Tables) → HasSoundPages t → HasSoundPages (page_removed key twin t)
removed_keeps key twin t sound = record {
  apart = apart_delete (λ a b. is_page a.1.key a.1.twin b) (is_page key twin) t.pages sound.apart;
  differ = apart_delete (λ a b. is_equal_page a.1.key a.1.bytes b) (is_page key twin) t.pages sound.differ;
  used = all-filter (λ x. 1 ≤ x.1.uses) _ t.pages sound.used;
}

added_keeps : (key : List ℕ) (twin : ℕ) (bytes : List ℕ) (t : Tables) → find (is_page key twin) t.pages ≡ None → find (is_equal_page key bytes) t.pages ≡ None → HasSoundPages t → HasSoundPages (page_added key twin bytes t)
added_keeps key twin bytes t free none sound = record {
  apart = apart_pushed (λ a b. is_page a.1.key a.1.twin b) t.pages new sound.apart (all_weaker (λ y. is_page key twin y ≡ false) (λ y. is_page y.1.key y.1.twin new ≡ false) other_twin t.pages (none_passes (is_page key twin) t.pages free));
  differ = apart_pushed (λ a b. is_equal_page a.1.key a.1.bytes b) t.pages new sound.differ (all_weaker (λ y. is_equal_page key bytes y ≡ false) (λ y. is_equal_page y.1.key y.1.bytes new ≡ false) other_bytes t.pages (none_passes (is_equal_page key bytes) t.pages none));
  used = all-append (λ x. 1 ≤ x.1.uses) t.pages (new ∷ []) sound.used (omega arith, tt);
}
  where
    new : Kept PageRow
    new = new_row key twin t bytes

    other_twin : (y : Kept PageRow) → is_page key twin y ≡ false → is_page y.1.key y.1.twin new ≡ false
    other_twin y none = false_from_ne_true (is_page y.1.key y.1.twin new) (λ e.
        let no_one : ⊥ = cc (sym (page_is key twin y (sym (page_key y.1.key y.1.twin new e)) (sym (page_twin y.1.key y.1.twin new e))) ∙ none) in no_one)

    other_bytes : (y : Kept PageRow) → is_equal_page key bytes y ≡ false → is_equal_page y.1.key y.1.bytes new ≡ false
    other_bytes y none = false_from_ne_true (is_equal_page y.1.key y.1.bytes new) (λ e.
        let no_one : ⊥ = cc (sym (equal_is key bytes y (sym (equal_key y.1.key y.1.bytes new e)) (sym (equal_bytes y.1.key y.1.bytes new e))) ∙ none) in no_one)

pub put_keeps : (key bytes : List ℕ) (t : Tables) → twin_for key bytes t < twin_limit → HasSoundPages t → HasSoundPages (page_put key bytes t)
put_keeps key bytes t fits sound = by_row (find (is_equal_page key bytes) t.pages) refl fits
  where
    by_row : (o : Option (Kept PageRow)) → find (is_equal_page key bytes) t.pages ≡ o → twin_found key (option_map page_use o) t < twin_limit → HasSoundPages (put_found key bytes (option_map page_use o) t)
    by_row None f low = added_keeps key (free_twin key t) bytes t (not_there key bytes t low) f sound
    by_row (Some x) f low = used_keeps key x.1.twin (x.1.uses + 1) t (omega arith) sound

-- ---- release

module _ (key : List ℕ) (twin : ℕ) (t : Tables) where
  pub release_is : (uses : ℕ) → page_uses key twin t ≡ Some uses → ReleasesPage key twin (pages_in t) (pages_in (page_released key twin t))
  release_is uses there = by_row (find (is_page key twin) t.pages) refl there
    where
      by_row : (o : Option (Kept PageRow)) → find (is_page key twin) t.pages ≡ o → option_map (λ (x : Kept PageRow). x.1.uses) o ≡ Some uses
          → ReleasesPage key twin (pages_in t) (pages_in (released_found key twin (option_map (λ (x : Kept PageRow). x.1.uses) o) t))
      by_row None f e = absurd (let no_one : ⊥ = cc in no_one)
      by_row (Some x) f e = record { page = (seen x, ap (option_map seen) f, (left (nat_lt 1 x.1.uses)).0); others = (left (nat_lt 1 x.1.uses)).1 }
        where
          left : (b : Bool) → (pages_in (cond b (page_used key twin (x.1.uses - 1) t) (page_removed key twin t)) key twin ≡ cond b (Some (record { bytes = x.1.bytes; uses = x.1.uses - 1 })) None)
              × KeepsOtherPages key twin (pages_in t) (pages_in (cond b (page_used key twin (x.1.uses - 1) t) (page_removed key twin t)))
          left true = (used_own key twin t (x.1.uses - 1) x f, used_others key twin t (x.1.uses - 1))
          left false = (removed_own key twin t, removed_others key twin t)

  pub release_keeps : HasSoundPages t → HasSoundPages (page_released key twin t)
  release_keeps sound = by_uses (page_uses key twin t)
    where
      by_uses : (o : Option ℕ) → HasSoundPages (released_found key twin o t)
      by_uses None = sound
      by_uses (Some uses) = go (nat_lt 1 uses) refl
        where
          go : (b : Bool) → nat_lt 1 uses ≡ b → HasSoundPages (cond b (page_used key twin (uses - 1) t) (page_removed key twin t))
          go true e = let many : 1 < uses = ltb-true 1 uses e in used_keeps key twin (uses - 1) t (omega (arith, many)) sound
          go false e = removed_keeps key twin t sound
