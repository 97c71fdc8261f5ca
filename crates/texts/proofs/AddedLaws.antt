-- What a piece that is put, and the pieces of a text, leave of the rows.
use Rattle.texts.proofs.Outside.{◌≡◌, ◌<◌, ◌≤◌, ◌⊎◌, inl, inr, ℕ, zero, suc, ◌+◌, nat_lt, Bool, true, false, cond, List, [], ◌∷◌, ◌++◌, length, filter, find, Option, Some, None, option_map, refl, sym, ap, ◌∙◌, subst, arith, unwrap_or, AllByRecursion, false_from_ne_true, true≢false, ltb-true, ltb-false, same_Some, AreApart, all_weaker, all-append, Kept, id_of, VpageRow, Tables, find_pushed, find_pushed_other, apart_pushed, none_passes, none_found, PageId, page_bytes, page_uses, equal_page, twin_limit, twin_for, put_found, page_put, Page, pages_in, HasSoundPages, PutsPage, put_is, put_keeps}
use Rattle.sqlite_keyed.specs.Keyed.{next_key}
use Rattle.statements.specs.Changes.{with_next}
use Rattle.texts.specs.Texts.{is_place_of, is_place, names_page, place_added, page_name, bytes_named, piece_of, piece_at, piece_added, pieces_added, TwinsFit, HasNoPlaces, HasSoundPlaces}
use Rattle.texts.proofs.PieceLists.{counted_more}
use Rattle.texts.proofs.PlaceLaws.{IsOtherPlace, place_parts, place_from, version_from, other_place, named_from, named_not, same_page, bytes_are, uses_are, named_there, piece_stays}

-- ---- a page that is put

module _ (key bytes : List ℕ) (t : Tables) where
  -- the other tables stay
  pub put_rest : page_put key bytes t ≡ record t { pages = (page_put key bytes t).pages }
  put_rest = elim (equal_page key bytes t) as (λ o. put_found key bytes o t ≡ record t { pages = (put_found key bytes o t).pages }) [ None ↦ refl | Some found ↦ refl ]

  pub put_places : (page_put key bytes t).vpages ≡ t.vpages
  put_places = ap (λ (u : Tables). u.vpages) put_rest

module _ (key bytes : List ℕ) (t : Tables) (sound : HasSoundPages t) (fits : twin_for key bytes t < twin_limit) where
  abbrev twin : ℕ
  twin = twin_for key bytes t

  abbrev u : Tables
  u = page_put key bytes t

  is_put : PutsPage key bytes twin (pages_in t) (pages_in u)
  is_put = put_is key bytes t sound fits

  abbrev uses_in : Option Page → ℕ
  uses_in o = unwrap_or (option_map (λ (p : Page). p.uses) o) 0

  -- the page that is put: it has its bytes, and had them if it was there
  put_there : (pages_in u key twin ≡ Some (record { bytes = bytes; uses = uses_in (pages_in t key twin) + 1 })) × ((p : Page) → pages_in t key twin ≡ Some p → p.bytes ≡ bytes)
  put_there = elim is_put.page [
    | inl (p, before, same, after) ↦ (
      after ∙ ap (λ (o : Option Page). Some (record { bytes = bytes; uses = uses_in o + 1 })) (sym before),
      λ q e. ap (λ (r : Page). r.bytes) (same_Some q p (sym e ∙ before)) ∙ same,
    )
    | inr (new, free, after) ↦ (
      after ∙ ap (λ (o : Option Page). Some (record { bytes = bytes; uses = uses_in o + 1 })) (sym free.free),
      λ q e. absurd (let no_one : ⊥ = cc (sym e ∙ free.free) in no_one),
    )
  ]

  -- what was there has the bytes that it had
  pub put_bytes : (k : List ℕ) (m : ℕ) (p : Page) → pages_in t k m ≡ Some p → page_bytes k m u ≡ page_bytes k m t
  put_bytes k m p there = bytes_are k m u ∙ go (same_page k m key twin) ∙ sym (bytes_are k m t)
    where
      go : ((k ≡ key) × (m ≡ twin)) ⊎ (¬ ((k ≡ key) × (m ≡ twin))) → option_map (λ (q : Page). q.bytes) (pages_in u k m) ≡ option_map (λ (q : Page). q.bytes) (pages_in t k m)
      go (inr other) = ap (option_map (λ (q : Page). q.bytes)) (is_put.others k m other)
      go (inl same) =
          let before : pages_in t key twin ≡ Some p = ap (λ (l : List ℕ). pages_in t l twin) (sym same.0) ∙ ap (λ (i : ℕ). pages_in t k i) (sym same.1) ∙ there in
          rw (same.0, same.1) (ap (option_map (λ (q : Page). q.bytes)) put_there.0 ∙ ap Some (sym (put_there.1 p before)) ∙ sym (ap (option_map (λ (q : Page). q.bytes)) before))

  pub put_own : page_bytes key twin u ≡ Some bytes
  put_own = bytes_are key twin u ∙ ap (option_map (λ (q : Page). q.bytes)) put_there.0

  -- one use more of it than before
  pub put_uses : unwrap_or (page_uses key twin u) 0 ≡ unwrap_or (page_uses key twin t) 0 + 1
  put_uses = ap (λ (x : Option ℕ). unwrap_or x 0) (uses_are key twin u ∙ ap (option_map (λ (q : Page). q.uses)) put_there.0) ∙ sym (ap (λ (x : Option ℕ). unwrap_or x 0 + 1) (uses_are key twin t))

  pub put_other_uses : (k : List ℕ) (m : ℕ) → ¬ ((k ≡ key) × (m ≡ twin)) → page_uses k m u ≡ page_uses k m t
  put_other_uses k m other = uses_are k m u ∙ ap (option_map (λ (q : Page). q.uses)) (is_put.others k m other) ∙ sym (uses_are k m t)

-- ---- a piece that is put

module _ (keys : ℕ → List ℕ) (org ws : List ℕ) (n : ℕ) (text : List ℕ) (place : ℕ) (t : Tables) where
  abbrev page : List ℕ
  page = piece_at text place

  abbrev own_key : List ℕ
  own_key = keys place

  abbrev own_twin : ℕ
  own_twin = twin_for own_key page t

  abbrev v : Tables
  v = piece_added keys org ws n text place t

  abbrev new_row : Kept VpageRow
  new_row = (next_key id_of t.vpages, record { org = org; ws = ws; number = n; place = place; key = own_key; twin = own_twin })

  pub added_row : v.vpages ≡ t.vpages ++ new_row ∷ []
  added_row = ap (with_next (record { org = org; ws = ws; number = n; place = place; key = own_key; twin = own_twin })) (put_places own_key page t)

  pub added_rest : v ≡ record t { pages = v.pages; vpages = v.vpages }
  added_rest = ap (place_added org ws n place own_key own_twin) (put_rest own_key page t) ∙ ap (λ (xs : List (Kept VpageRow)). record t { pages = v.pages; vpages = xs }) (sym added_row)

  pub added_find : (p : Kept VpageRow → Bool) → ((x : Kept VpageRow) → is_place org ws n place x ≡ true → p x ≡ false) → find p v.vpages ≡ find p t.vpages
  added_find p other = ap (find p) added_row ∙ find_pushed_other p t.vpages new_row (other new_row (place_from org ws n new_row place refl refl refl refl))

  pub added_all : (P : Kept VpageRow → Type 0) → ((x : Kept VpageRow) → x.1.org ≡ org → x.1.ws ≡ ws → x.1.number ≡ n → x.1.place ≡ place → P x) → AllByRecursion P t.vpages → AllByRecursion P v.vpages
  added_all P new all = subst (AllByRecursion P) (sym added_row) (all-append P t.vpages (new_row ∷ []) all (new new_row refl refl refl refl, tt))

  module _ (sound : HasSoundPlaces t) (fits : own_twin < twin_limit) where
    -- a piece at another place stays
    pub added_stays : (o w : List ℕ) (m q : ℕ) → IsOtherPlace o w m q org ws n place → piece_of o w m q v ≡ piece_of o w m q t
    added_stays o w m q other = piece_stays o w m q t v (ap (option_map page_name) (added_find (is_place o w m q) other))
        (λ id named. let there = named_there o w m q t sound id named in put_bytes own_key page t sound.pages fits id.key id.twin there.0 there.1)

    module _ (none : find (is_place org ws n place) t.vpages ≡ None) where
      pub added_own : piece_of org ws n place v ≡ Some page
      added_own = ap (λ (a : Option PageId). bytes_named a v) (ap (option_map page_name) (ap (find (is_place org ws n place)) added_row ∙ find_pushed (is_place org ws n place) t.vpages new_row none (place_from org ws n new_row place refl refl refl refl)))
          ∙ put_own own_key page t sound.pages fits

      added_counted : (k : List ℕ) (m : ℕ) → unwrap_or (page_uses k m v) 0 ≡ length (filter (names_page k m) v.vpages)
      added_counted k m = go (same_page k m own_key own_twin) ∙ sym (ap (λ (xs : List (Kept VpageRow)). length (filter (names_page k m) xs)) added_row ∙ counted_more (names_page k m) t.vpages new_row)
        where
          go : ((k ≡ own_key) × (m ≡ own_twin)) ⊎ (¬ ((k ≡ own_key) × (m ≡ own_twin))) → unwrap_or (page_uses k m v) 0 ≡ length (filter (names_page k m) t.vpages) + cond (names_page k m new_row) 1 0
          go (inr other) =
              ap (λ (x : Option ℕ). unwrap_or x 0) (put_other_uses own_key page t sound.pages fits k m other) ∙ sound.counted k m
              ∙ let none : ◌≡◌ {A = ℕ} (cond (names_page k m new_row) 1 0) 0 = ap (λ (b : Bool). cond b 1 0) (named_not k m new_row other) in omega (arith, none)
          go (inl same) =
              let one : ◌≡◌ {A = ℕ} (cond (names_page k m new_row) 1 0) 1 = ap (λ (b : Bool). cond b 1 0) (named_from k m new_row (sym same.0) (sym same.1)) in
              let more : unwrap_or (page_uses k m v) 0 ≡ unwrap_or (page_uses k m t) 0 + 1 = rw (same.0, same.1) (put_uses own_key page t sound.pages fits) in
              let before : unwrap_or (page_uses k m t) 0 ≡ length (filter (names_page k m) t.vpages) = sound.counted k m in omega (arith, one, more, before)

      -- uses are counted, pages are sound and places apart, as before
      pub added_sound : HasSoundPlaces v
      added_sound =
          let pages = put_keeps own_key page t fits sound.pages in
          record {
            pages = record { apart = pages.apart; differ = pages.differ; used = pages.used };
            counted = added_counted;
            apart = subst (AreApart (λ (a b : Kept VpageRow). is_place a.1.org a.1.ws a.1.number a.1.place b)) (sym added_row)
                (apart_pushed (λ a b. is_place a.1.org a.1.ws a.1.number a.1.place b) t.vpages new_row sound.apart
                (all_weaker (λ y. is_place org ws n place y ≡ false) (λ y. is_place y.1.org y.1.ws y.1.number y.1.place new_row ≡ false) turned t.vpages (none_passes (is_place org ws n place) t.vpages none)));
          }
        where
          turned : (y : Kept VpageRow) → is_place org ws n place y ≡ false → is_place y.1.org y.1.ws y.1.number y.1.place new_row ≡ false
          turned y e = false_from_ne_true (is_place y.1.org y.1.ws y.1.number y.1.place new_row) (λ f.
              let a = place_parts y.1.org y.1.ws y.1.number new_row y.1.place f in
              true≢false (sym (place_from org ws n y place (sym a.0) (sym a.1.0) (sym a.1.1.0) (sym a.1.1.1)) ∙ e))

-- ---- the pieces of a text that is put

-- a version with no row has none at a place
pub no_place : (org ws : List ℕ) (n place : ℕ) (xs : List (Kept VpageRow)) → find (is_place_of org ws n) xs ≡ None → find (is_place org ws n place) xs ≡ None
no_place org ws n place xs none =
    none_found (is_place org ws n place) xs (all_weaker (λ x. is_place_of org ws n x ≡ false) (λ x. is_place org ws n place x ≡ false) narrower xs (none_passes (is_place_of org ws n) xs none))
  where
    narrower : (x : Kept VpageRow) → is_place_of org ws n x ≡ false → is_place org ws n place x ≡ false
    narrower x e = false_from_ne_true (is_place org ws n place x) (λ f. let a = place_parts org ws n x place f in true≢false (sym (version_from org ws n x a.0 a.1.0 a.1.1.0) ∙ e))

module _ (keys : ℕ → List ℕ) (org ws : List ℕ) (n : ℕ) (text : List ℕ) (t : Tables) where
  abbrev after : ℕ → Tables
  after place = pieces_added keys org ws n text place t

  pub pieces_find : (p : Kept VpageRow → Bool) (place : ℕ) → ((q : ℕ) → q < place → (x : Kept VpageRow) → is_place org ws n q x ≡ true → p x ≡ false) → find p (after place).vpages ≡ find p t.vpages
  pieces_find p zero other = refl
  pieces_find p (suc place) other = added_find keys org ws n text place (after place) p (other place (omega arith)) ∙ pieces_find p place (λ q below. other q (omega (arith, below)))

  pub pieces_all : (P : Kept VpageRow → Type 0) (place : ℕ) → ((x : Kept VpageRow) → x.1.org ≡ org → x.1.ws ≡ ws → x.1.number ≡ n → x.1.place < place → P x) → AllByRecursion P t.vpages → AllByRecursion P (after place).vpages
  pieces_all P zero new all = all
  pieces_all P (suc place) new all =
      added_all keys org ws n text place (after place) P (λ x e f g h. new x e f g (omega (arith, h))) (pieces_all P place (λ x e f g below. new x e f g (omega (arith, below))) all)

  pub pieces_rest : (place : ℕ) → after place ≡ record t { pages = (after place).pages; vpages = (after place).vpages }
  pieces_rest zero = refl
  pieces_rest (suc place) =
      added_rest keys org ws n text place (after place) ∙ ap (λ (u : Tables). record u { pages = (after (suc place)).pages; vpages = (after (suc place)).vpages }) (pieces_rest place)

  module _ (sound : HasSoundPlaces t) (none : HasNoPlaces org ws n t) where
    free_place : (place : ℕ) → find (is_place org ws n place) (after place).vpages ≡ None
    free_place place = pieces_find (is_place org ws n place) place (λ q below. other_place org ws n q place (λ e. absurd (omega (arith, e, below)))) ∙ no_place org ws n place t.vpages none

    pub pieces_sound : (place : ℕ) → TwinsFit keys org ws n text place t → HasSoundPlaces (after place)
    pieces_sound zero fit = sound
    pieces_sound (suc place) fit = added_sound keys org ws n text place (after place) (pieces_sound place fit.0) fit.1 (free_place place)

    pub pieces_stay : (o w : List ℕ) (m q place : ℕ) → TwinsFit keys org ws n text place t → ((r : ℕ) → r < place → IsOtherPlace o w m q org ws n r) → piece_of o w m q (after place) ≡ piece_of o w m q t
    pieces_stay o w m q zero fit other = refl
    pieces_stay o w m q (suc place) fit other =
        added_stays keys org ws n text place (after place) (pieces_sound place fit.0) fit.1 o w m q (other place (omega arith))
        ∙ pieces_stay o w m q place fit.0 (λ r below. other r (omega (arith, below)))

    pub pieces_own : (place : ℕ) → TwinsFit keys org ws n text place t → (q : ℕ) → q < place → piece_of org ws n q (after place) ≡ Some (piece_at text q)
    pieces_own zero fit q below = absurd (omega (arith, below))
    pieces_own (suc place) fit q below = go (nat_lt q place) refl (pieces_own place fit.0 q)
      where
        last : q ≡ place → piece_of org ws n q (after (suc place)) ≡ Some (piece_at text q)
        last same = rw same (added_own keys org ws n text place (after place) (pieces_sound place fit.0) fit.1 (free_place place))

        go : (b : Bool) → nat_lt q place ≡ b → (q < place → piece_of org ws n q (after place) ≡ Some (piece_at text q)) → piece_of org ws n q (after (suc place)) ≡ Some (piece_at text q)
        go true e before =
            let under : q < place = ltb-true q place e in
            added_stays keys org ws n text place (after place) (pieces_sound place fit.0) fit.1 org ws n q (other_place org ws n place q (λ e. absurd (omega (arith, e, under)))) ∙ before under
        go false e before = let over : place ≤ q = ltb-false q place e in last (omega (arith, over, below))
