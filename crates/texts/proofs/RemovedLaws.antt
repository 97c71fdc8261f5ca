-- What a piece that is taken away, and the pieces of a text, leave of the rows.
use Rattle.texts.proofs.Outside.{◌≡◌, ◌<◌, ◌≤◌, ◌⊎◌, inl, inr, ℕ, zero, suc, ◌+◌, ◌-◌, nat_lt, Bool, true, false, not, cond, List, length, filter, find, Option, Some, None, option_map, refl, sym, ap, ◌∙◌, subst, arith, unwrap_or, AllByRecursion, ltb-true, ltb-false, same_Some, delete_where, AreApart, all-filter, Kept, VpageRow, Tables, find_left, find_deleted, none_passes, none_found, none_deleted, PageId, page_bytes, page_uses, page_used, page_removed, released_found, page_released, Page, pages_in, HasSoundPages, less_used, ReleasesPage, release_is, release_keeps}
use Rattle.sqlite_keyed.proofs.RuleLemmas.{apart_delete}
use Rattle.texts.specs.Texts.{is_place, names_page, place_removed, page_name, page_at, released_at, piece_of, piece_removed, pieces_removed, HasSoundPlaces}
use Rattle.texts.proofs.PieceLists.{counted_some, counted_less}
use Rattle.texts.proofs.PlaceLaws.{IsOtherPlace, places_clash, named_from, named_not, same_page, bytes_are, uses_are, page_there, named_there, piece_stays}

-- ---- a page that is released

module _ (key : List ℕ) (twin : ℕ) (t : Tables) where
  -- the other tables stay
  pub released_rest : page_released key twin t ≡ record t { pages = (page_released key twin t).pages }
  released_rest = go (page_uses key twin t)
    where
      less : (b : Bool) (uses : ℕ)
          → cond b (page_used key twin (uses - 1) t) (page_removed key twin t) ≡ record t { pages = (cond b (page_used key twin (uses - 1) t) (page_removed key twin t)).pages }
      less true uses = refl
      less false uses = refl

      go : (o : Option ℕ) → released_found key twin o t ≡ record t { pages = (released_found key twin o t).pages }
      go None = refl
      go (Some uses) = less (nat_lt 1 uses) uses

  pub released_places : (page_released key twin t).vpages ≡ t.vpages
  released_places = ap (λ (u : Tables). u.vpages) released_rest

  abbrev r : Tables
  r = page_released key twin t

  abbrev uses_in : Option Page → ℕ
  uses_in o = unwrap_or (option_map (λ (p : Page). p.uses) o) 0

  module _ (p : Page) (there : pages_in t key twin ≡ Some p) where
    is_released : ReleasesPage key twin (pages_in t) (pages_in r)
    is_released = release_is key twin t p.uses (uses_are key twin t ∙ ap (option_map (λ (q : Page). q.uses)) there)

    left : pages_in r key twin ≡ less_used p
    left = is_released.page.2 ∙ ap less_used (same_Some is_released.page.0 p (sym is_released.page.1 ∙ there))

    -- one use less of it than before
    pub released_uses : unwrap_or (page_uses key twin r) 0 ≡ p.uses - 1
    released_uses = ap (λ (x : Option ℕ). unwrap_or x 0) (uses_are key twin r ∙ ap (option_map (λ (q : Page). q.uses)) left) ∙ go (nat_lt 1 p.uses) refl
      where
        go : (b : Bool) → nat_lt 1 p.uses ≡ b → uses_in (cond b (Some (record p { uses = p.uses - 1 })) None) ≡ p.uses - 1
        go true e = refl
        go false e = let few : p.uses ≤ 1 = ltb-false 1 p.uses e in omega (arith, few)

    pub released_other_uses : (k : List ℕ) (m : ℕ) → ¬ ((k ≡ key) × (m ≡ twin)) → page_uses k m r ≡ page_uses k m t
    released_other_uses k m other = uses_are k m r ∙ ap (option_map (λ (q : Page). q.uses)) (is_released.others k m other) ∙ sym (uses_are k m t)

    -- what is there afterwards has the bytes that it had
    pub released_bytes : (k : List ℕ) (m : ℕ) (q : Page) → pages_in r k m ≡ Some q → page_bytes k m r ≡ page_bytes k m t
    released_bytes k m q after = bytes_are k m r ∙ go (same_page k m key twin) ∙ sym (bytes_are k m t)
      where
        less : (b : Bool) → ◌≡◌ {A = Option Page} (cond b (Some (record p { uses = p.uses - 1 })) None) (Some q) → q.bytes ≡ p.bytes
        less true e = sym (ap (λ (x : Page). x.bytes) (same_Some (record p { uses = p.uses - 1 }) q e))
        less false e = absurd (let no_one : ⊥ = cc in no_one)

        go : ((k ≡ key) × (m ≡ twin)) ⊎ (¬ ((k ≡ key) × (m ≡ twin))) → option_map (λ (x : Page). x.bytes) (pages_in r k m) ≡ option_map (λ (x : Page). x.bytes) (pages_in t k m)
        go (inr other) = ap (option_map (λ (x : Page). x.bytes)) (is_released.others k m other)
        go (inl same) =
            let now : pages_in r key twin ≡ Some q = ap (λ (l : List ℕ). pages_in r l twin) (sym same.0) ∙ ap (λ (i : ℕ). pages_in r k i) (sym same.1) ∙ after in
            ap (option_map (λ (x : Page). x.bytes)) after ∙ ap Some (less (nat_lt 1 p.uses) (sym left ∙ now))
            ∙ sym (ap (option_map (λ (x : Page). x.bytes)) (ap (λ (l : List ℕ). pages_in t l m) same.0 ∙ ap (λ (i : ℕ). pages_in t key i) same.1 ∙ there))

-- ---- a piece that is taken away

module _ (org ws : List ℕ) (n place : ℕ) (t : Tables) where
  abbrev v : Tables
  v = piece_removed org ws n place t

  abbrev here : Kept VpageRow → Bool
  here = is_place org ws n place

  -- its row goes, and no other
  pub removed_rows : v.vpages ≡ delete_where here t.vpages
  removed_rows = go (page_at org ws n place t)
    where
      go : (o : Option PageId) → (released_at o (place_removed org ws n place t)).vpages ≡ delete_where here t.vpages
      go None = refl
      go (Some id) = released_places id.key id.twin (place_removed org ws n place t)

  pub removed_rest : v ≡ record t { pages = v.pages; vpages = v.vpages }
  removed_rest = go (page_at org ws n place t) ∙ ap (λ (xs : List (Kept VpageRow)). record t { pages = v.pages; vpages = xs }) (sym removed_rows)
    where
      go : (o : Option PageId) → released_at o (place_removed org ws n place t) ≡ record t { pages = (released_at o (place_removed org ws n place t)).pages; vpages = delete_where here t.vpages }
      go None = refl
      go (Some id) = released_rest id.key id.twin (place_removed org ws n place t)

  pub removed_find : (p : Kept VpageRow → Bool) → ((x : Kept VpageRow) → here x ≡ true → p x ≡ false) → find p v.vpages ≡ find p t.vpages
  removed_find p other = ap (find p) removed_rows ∙ find_left p here other t.vpages

  pub removed_all : (P : Kept VpageRow → Type 0) → AllByRecursion P t.vpages → AllByRecursion P v.vpages
  removed_all P all = subst (AllByRecursion P) (sym removed_rows) (all-filter P (λ x. not (here x)) t.vpages all)

  module _ (sound : HasSoundPlaces t) where
    abbrev without : Tables
    without = place_removed org ws n place t

    -- the page that the row named
    gone_page : (x : Kept VpageRow) → find here t.vpages ≡ Some x → (p : Page) × (pages_in t x.1.key x.1.twin ≡ Some p)
    gone_page x found = page_there x.1.key x.1.twin t sound (counted_some (names_page x.1.key x.1.twin) here t.vpages x found (named_from x.1.key x.1.twin x refl refl))

    removed_pages : HasSoundPages v
    removed_pages = go (page_at org ws n place t)
      where
        before : HasSoundPages without
        before = record { apart = sound.pages.apart; differ = sound.pages.differ; used = sound.pages.used }

        go : (o : Option PageId) → HasSoundPages (released_at o without)
        go None = before
        go (Some id) = release_keeps id.key id.twin without before

    removed_counted : (k : List ℕ) (m : ℕ) → unwrap_or (page_uses k m v) 0 ≡ length (filter (names_page k m) v.vpages)
    removed_counted k m = go (find here t.vpages) refl ∙ sym (ap (λ (xs : List (Kept VpageRow)). length (filter (names_page k m) xs)) removed_rows)
      where
        go : (o : Option (Kept VpageRow)) → find here t.vpages ≡ o
            → unwrap_or (page_uses k m (released_at (option_map page_name o) without)) 0 ≡ length (filter (names_page k m) (delete_where here t.vpages))
        go None found = sound.counted k m ∙ sym (ap (λ (xs : List (Kept VpageRow)). length (filter (names_page k m) xs)) (none_deleted here t.vpages (none_passes here t.vpages found)))
        go (Some x) found = by_page (same_page k m x.1.key x.1.twin)
          where
            p : (p : Page) × (pages_in t x.1.key x.1.twin ≡ Some p)
            p = gone_page x found

            less : length (filter (names_page k m) t.vpages) ≡ length (filter (names_page k m) (delete_where here t.vpages)) + cond (names_page k m x) 1 0
            less = counted_less (λ a b. is_place a.1.org a.1.ws a.1.number a.1.place b) here (names_page k m) (λ a b. places_clash org ws n place a b) t.vpages x sound.apart found

            by_page : ((k ≡ x.1.key) × (m ≡ x.1.twin)) ⊎ (¬ ((k ≡ x.1.key) × (m ≡ x.1.twin)))
                → unwrap_or (page_uses k m (page_released x.1.key x.1.twin without)) 0 ≡ length (filter (names_page k m) (delete_where here t.vpages))
            by_page (inr other) =
                let none : ◌≡◌ {A = ℕ} (cond (names_page k m x) 1 0) 0 = ap (λ (b : Bool). cond b 1 0) (named_not k m x other) in
                let before : unwrap_or (page_uses k m t) 0 ≡ length (filter (names_page k m) t.vpages) = sound.counted k m in
                ap (λ (o : Option ℕ). unwrap_or o 0) (released_other_uses x.1.key x.1.twin without p.0 p.1 k m other) ∙ before ∙ less ∙ omega (arith, none)
            by_page (inl same) =
                let one : ◌≡◌ {A = ℕ} (cond (names_page k m x) 1 0) 1 = ap (λ (b : Bool). cond b 1 0) (named_from k m x (sym same.0) (sym same.1)) in
                let before : p.0.uses ≡ length (filter (names_page k m) t.vpages) =
                sym (ap (λ (o : Option ℕ). unwrap_or o 0) (uses_are k m t ∙ ap (option_map (λ (q : Page). q.uses)) (ap (λ (l : List ℕ). pages_in t l m) same.0 ∙ ap (λ (i : ℕ). pages_in t x.1.key i) same.1 ∙ p.1)))
                ∙ sound.counted k m in
                let after : unwrap_or (page_uses k m (page_released x.1.key x.1.twin without)) 0 ≡ p.0.uses - 1 = rw (same.0, same.1) (released_uses x.1.key x.1.twin without p.0 p.1) in
                after ∙ omega (arith, one, before, less)

    -- uses are counted, pages are sound and places apart, as before
    pub removed_sound : HasSoundPlaces v
    removed_sound = record {
      pages = removed_pages;
      counted = removed_counted;
      apart = subst (AreApart (λ (a b : Kept VpageRow). is_place a.1.org a.1.ws a.1.number a.1.place b)) (sym removed_rows) (apart_delete (λ a b. is_place a.1.org a.1.ws a.1.number a.1.place b) here t.vpages sound.apart);
    }

    removed_bytes : (k : List ℕ) (m : ℕ) (q : Page) → pages_in v k m ≡ Some q → page_bytes k m v ≡ page_bytes k m t
    removed_bytes k m q after = go (find here t.vpages) refl after
      where
        go : (o : Option (Kept VpageRow)) → find here t.vpages ≡ o → pages_in (released_at (option_map page_name o) without) k m ≡ Some q → page_bytes k m (released_at (option_map page_name o) without) ≡ page_bytes k m t
        go None found now = refl
        go (Some x) found now = let p = gone_page x found in released_bytes x.1.key x.1.twin without p.0 p.1 k m q now

    -- a piece at another place stays
    pub removed_stays : (o w : List ℕ) (m q : ℕ) → IsOtherPlace o w m q org ws n place → piece_of o w m q v ≡ piece_of o w m q t
    removed_stays o w m q other = piece_stays o w m q t v same (λ id named. let there = named_there o w m q v removed_sound id (same ∙ named) in removed_bytes id.key id.twin there.0 there.1)
      where
        same : page_at o w m q v ≡ page_at o w m q t
        same = ap (option_map page_name) (removed_find (is_place o w m q) other)

-- ---- the pieces of a text that is taken away

module _ (org ws : List ℕ) (n : ℕ) (t : Tables) where
  abbrev after : ℕ → Tables
  after place = pieces_removed org ws n place t

  pub gone_find : (p : Kept VpageRow → Bool) (place : ℕ) → ((q : ℕ) → q < place → (x : Kept VpageRow) → is_place org ws n q x ≡ true → p x ≡ false) → find p (after place).vpages ≡ find p t.vpages
  gone_find p zero other = refl
  gone_find p (suc place) other = removed_find org ws n place (after place) p (other place (omega arith)) ∙ gone_find p place (λ q below. other q (omega (arith, below)))

  pub gone_all : (P : Kept VpageRow → Type 0) (place : ℕ) → AllByRecursion P t.vpages → AllByRecursion P (after place).vpages
  gone_all P zero all = all
  gone_all P (suc place) all = removed_all org ws n place (after place) P (gone_all P place all)

  pub gone_rest : (place : ℕ) → after place ≡ record t { pages = (after place).pages; vpages = (after place).vpages }
  gone_rest zero = refl
  gone_rest (suc place) = removed_rest org ws n place (after place) ∙ ap (λ (u : Tables). record u { pages = (after (suc place)).pages; vpages = (after (suc place)).vpages }) (gone_rest place)

  -- no row is left at the places
  pub gone_places : (place q : ℕ) → q < place → find (is_place org ws n q) (after place).vpages ≡ None
  gone_places zero q below = absurd (omega (arith, below))
  gone_places (suc place) q below = go (nat_lt q place) refl (gone_places place q)
    where
      still : find (is_place org ws n q) (after place).vpages ≡ None → find (is_place org ws n q) (after (suc place)).vpages ≡ None
      still none = none_found (is_place org ws n q) (after (suc place)).vpages (removed_all org ws n place (after place) (λ x. is_place org ws n q x ≡ false) (none_passes (is_place org ws n q) (after place).vpages none))

      last : q ≡ place → find (is_place org ws n q) (after (suc place)).vpages ≡ None
      last same = rw same (ap (find (is_place org ws n place)) (removed_rows org ws n place (after place)) ∙ find_deleted (is_place org ws n place) (after place).vpages)

      go : (b : Bool) → nat_lt q place ≡ b → (q < place → find (is_place org ws n q) (after place).vpages ≡ None) → find (is_place org ws n q) (after (suc place)).vpages ≡ None
      go true e before = still (before (ltb-true q place e))
      go false e before = let over : place ≤ q = ltb-false q place e in last (omega (arith, over, below))

  module _ (sound : HasSoundPlaces t) where
    pub gone_sound : (place : ℕ) → HasSoundPlaces (after place)
    gone_sound zero = sound
    gone_sound (suc place) = removed_sound org ws n place (after place) (gone_sound place)

    pub gone_stay : (o w : List ℕ) (m q place : ℕ) → ((r : ℕ) → r < place → IsOtherPlace o w m q org ws n r) → piece_of o w m q (after place) ≡ piece_of o w m q t
    gone_stay o w m q zero other = refl
    gone_stay o w m q (suc place) other =
        removed_stays org ws n place (after place) (gone_sound place) o w m q (other place (omega arith)) ∙ gone_stay o w m q place (λ r below. other r (omega (arith, below)))
