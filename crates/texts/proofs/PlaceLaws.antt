-- The rows of vpage by the places that they stand for, and the pages that they name.
use Rattle.texts.proofs.Outside.{◌≡◌, ◌≤◌, ◌⊎◌, inl, inr, ℕ, Bool, true, false, ◌&&◌, ◌==◌, List, length, filter, find, Option, Some, None, option_map, refl, sym, ap, ◌∙◌, arith, unwrap_or, bytes_eq, false_from_ne_true, and_from, and_parts, eqb-true, eq-eqb, true≢false, bytes_eq-Decides, Kept, PageRow, VpageRow, Tables, is_page, page_bytes, page_uses, Page, pages_in, PageId}
use Rattle.texts.specs.Texts.{is_place_of, is_place, names_page, page_name, page_at, bytes_named, piece_of, HasSoundPlaces}
use Rattle.texts.proofs.PieceLists.{counted_some}

-- ---- tests

-- no row of the one place is one of the other
abbrev pub IsOtherPlace : List ℕ → List ℕ → ℕ → ℕ → List ℕ → List ℕ → ℕ → ℕ → Type 0
IsOtherPlace o w m q org ws n place = (x : Kept VpageRow) → is_place org ws n place x ≡ true → is_place o w m q x ≡ false

-- the one version is another one
abbrev pub IsOtherVersion : List ℕ → List ℕ → ℕ → List ℕ → List ℕ → ℕ → Type 0
IsOtherVersion o w m org ws n = ¬ ((o ≡ org) × ((w ≡ ws) × (m ≡ n)))

module _ (org ws : List ℕ) (n : ℕ) (x : Kept VpageRow) where
  pub version_parts : is_place_of org ws n x ≡ true → (x.1.org ≡ org) × ((x.1.ws ≡ ws) × (x.1.number ≡ n))
  version_parts e =
      let a = and_parts (bytes_eq x.1.org org) (bytes_eq x.1.ws ws && x.1.number == n) e in
      let b = and_parts (bytes_eq x.1.ws ws) (x.1.number == n) a.1 in
      ((bytes_eq-Decides x.1.org org).0 a.0, ((bytes_eq-Decides x.1.ws ws).0 b.0, eqb-true x.1.number n b.1))

  pub version_from : x.1.org ≡ org → x.1.ws ≡ ws → x.1.number ≡ n → is_place_of org ws n x ≡ true
  version_from e f g =
      and_from (bytes_eq x.1.org org) (bytes_eq x.1.ws ws && x.1.number == n) ((bytes_eq-Decides x.1.org org).1 e)
      (and_from (bytes_eq x.1.ws ws) (x.1.number == n) ((bytes_eq-Decides x.1.ws ws).1 f) (eq-eqb x.1.number n g))

  module _ (place : ℕ) where
    pub place_parts : is_place org ws n place x ≡ true → (x.1.org ≡ org) × ((x.1.ws ≡ ws) × ((x.1.number ≡ n) × (x.1.place ≡ place)))
    place_parts e =
        let a = and_parts (bytes_eq x.1.org org) (bytes_eq x.1.ws ws && (x.1.number == n && x.1.place == place)) e in
        let b = and_parts (bytes_eq x.1.ws ws) (x.1.number == n && x.1.place == place) a.1 in
        let c = and_parts (x.1.number == n) (x.1.place == place) b.1 in
        ((bytes_eq-Decides x.1.org org).0 a.0, ((bytes_eq-Decides x.1.ws ws).0 b.0, (eqb-true x.1.number n c.0, eqb-true x.1.place place c.1)))

    pub place_from : x.1.org ≡ org → x.1.ws ≡ ws → x.1.number ≡ n → x.1.place ≡ place → is_place org ws n place x ≡ true
    place_from e f g h =
        and_from (bytes_eq x.1.org org) (bytes_eq x.1.ws ws && (x.1.number == n && x.1.place == place)) ((bytes_eq-Decides x.1.org org).1 e)
        (and_from (bytes_eq x.1.ws ws) (x.1.number == n && x.1.place == place) ((bytes_eq-Decides x.1.ws ws).1 f)
        (and_from (x.1.number == n) (x.1.place == place) (eq-eqb x.1.number n g) (eq-eqb x.1.place place h)))

-- two rows of one place clash
pub places_clash : (org ws : List ℕ) (n place : ℕ) (a b : Kept VpageRow) → is_place org ws n place a ≡ true → is_place org ws n place b ≡ true → is_place a.1.org a.1.ws a.1.number a.1.place b ≡ true
places_clash org ws n place a b e f =
    let p = place_parts org ws n a place e in
    let q = place_parts org ws n b place f in
    place_from a.1.org a.1.ws a.1.number b a.1.place (q.0 ∙ sym p.0) (q.1.0 ∙ sym p.1.0) (q.1.1.0 ∙ sym p.1.1.0) (q.1.1.1 ∙ sym p.1.1.1)

pub other_place : (org ws : List ℕ) (n place q : ℕ) → ¬ (q ≡ place) → IsOtherPlace org ws n q org ws n place
other_place org ws n place q other x e =
    false_from_ne_true (is_place org ws n q x) (λ f. other (sym (place_parts org ws n x q f).1.1.1 ∙ (place_parts org ws n x place e).1.1.1))

module _ (o w : List ℕ) (m : ℕ) (org ws : List ℕ) (n : ℕ) (other : IsOtherVersion o w m org ws n) where
  pub other_version : (q place : ℕ) → IsOtherPlace o w m q org ws n place
  other_version q place x e =
      let a = place_parts org ws n x place e in
      false_from_ne_true (is_place o w m q x) (λ f. let b = place_parts o w m x q f in other (sym b.0 ∙ a.0, (sym b.1.0 ∙ a.1.0, sym b.1.1.0 ∙ a.1.1.0)))

  pub other_rows : (place : ℕ) (x : Kept VpageRow) → is_place org ws n place x ≡ true → is_place_of o w m x ≡ false
  other_rows place x e =
      let a = place_parts org ws n x place e in
      false_from_ne_true (is_place_of o w m x) (λ f. let b = version_parts o w m x f in other (sym b.0 ∙ a.0, (sym b.1.0 ∙ a.1.0, sym b.1.1 ∙ a.1.1.0)))

-- ---- names of pages

pub named_parts : (key : List ℕ) (twin : ℕ) (x : Kept VpageRow) → names_page key twin x ≡ true → (x.1.key ≡ key) × (x.1.twin ≡ twin)
named_parts key twin x e =
    let a = and_parts (bytes_eq x.1.key key) (x.1.twin == twin) e in
    ((bytes_eq-Decides x.1.key key).0 a.0, eqb-true x.1.twin twin a.1)

pub named_from : (key : List ℕ) (twin : ℕ) (x : Kept VpageRow) → x.1.key ≡ key → x.1.twin ≡ twin → names_page key twin x ≡ true
named_from key twin x e f = and_from (bytes_eq x.1.key key) (x.1.twin == twin) ((bytes_eq-Decides x.1.key key).1 e) (eq-eqb x.1.twin twin f)

pub named_not : (key : List ℕ) (twin : ℕ) (x : Kept VpageRow) → ¬ ((key ≡ x.1.key) × (twin ≡ x.1.twin)) → names_page key twin x ≡ false
named_not key twin x other = false_from_ne_true (names_page key twin x) (λ e. let a = named_parts key twin x e in other (sym a.0, sym a.1))

-- a page is the one, or another
pub same_page : (k : List ℕ) (m : ℕ) (key : List ℕ) (twin : ℕ) → ((k ≡ key) × (m ≡ twin)) ⊎ (¬ ((k ≡ key) × (m ≡ twin)))
same_page k m key twin = go (bytes_eq k key) refl (m == twin) refl
  where
    go : (a : Bool) → bytes_eq k key ≡ a → (b : Bool) → (m == twin) ≡ b → ((k ≡ key) × (m ≡ twin)) ⊎ (¬ ((k ≡ key) × (m ≡ twin)))
    go true e true f = inl ((bytes_eq-Decides k key).0 e, eqb-true m twin f)
    go true e false f = inr (λ same. true≢false (sym (eq-eqb m twin same.1) ∙ f))
    go false e b f = inr (λ same. true≢false (sym ((bytes_eq-Decides k key).1 same.0) ∙ e))

-- ---- pages by their bytes and uses

abbrev seen : Kept PageRow → Page
seen x = record { bytes = x.1.bytes; uses = x.1.uses }

bytes_seen : (x : Option (Kept PageRow)) → option_map (λ (x : Kept PageRow). x.1.bytes) x ≡ option_map (λ (p : Page). p.bytes) (option_map seen x)
bytes_seen None = refl
bytes_seen (Some x) = refl

uses_seen : (x : Option (Kept PageRow)) → option_map (λ (x : Kept PageRow). x.1.uses) x ≡ option_map (λ (p : Page). p.uses) (option_map seen x)
uses_seen None = refl
uses_seen (Some x) = refl

module _ (k : List ℕ) (m : ℕ) (t : Tables) where
  pub bytes_are : page_bytes k m t ≡ option_map (λ (p : Page). p.bytes) (pages_in t k m)
  bytes_are = bytes_seen (find (is_page k m) t.pages)

  pub uses_are : page_uses k m t ≡ option_map (λ (p : Page). p.uses) (pages_in t k m)
  uses_are = uses_seen (find (is_page k m) t.pages)

  -- a page that a row names is there
  pub page_there : HasSoundPlaces t → 1 ≤ length (filter (names_page k m) t.vpages) → (p : Page) × (pages_in t k m ≡ Some p)
  page_there sound some = go (pages_in t k m) refl
    where
      go : (o : Option Page) → pages_in t k m ≡ o → (p : Page) × (pages_in t k m ≡ Some p)
      go (Some p) e = (p, e)
      go None e =
          let none : 0 ≡ length (filter (names_page k m) t.vpages) = sym (ap (λ (u : Option ℕ). unwrap_or u 0) (uses_are ∙ ap (option_map (λ (p : Page). p.uses)) e)) ∙ sound.counted k m in
          absurd (omega (arith, none, some))

some_row : {X : Type 0} (f : X → PageId) (o : Option X) (id : PageId) → option_map f o ≡ Some id → (x : X) × ((o ≡ Some x) × (f x ≡ id))
some_row f None id e = absurd (let no_one : ⊥ = cc in no_one)
some_row f (Some x) id e = (x, (refl, (let same : f x ≡ id = cc in same)))

-- the page at a place is there
pub named_there : (o w : List ℕ) (m q : ℕ) (t : Tables) → HasSoundPlaces t → (id : PageId) → page_at o w m q t ≡ Some id → (p : Page) × (pages_in t id.key id.twin ≡ Some p)
named_there o w m q t sound id e =
    let row = some_row page_name (find (is_place o w m q) t.vpages) id e in
    page_there id.key id.twin t sound
    (counted_some (names_page id.key id.twin) (is_place o w m q) t.vpages row.0 row.1.0
    (named_from id.key id.twin row.0 (ap (λ (i : PageId). i.key) row.1.1) (ap (λ (i : PageId). i.twin) row.1.1)))

-- a piece stays where its place names the same page, whose bytes stay
pub piece_stays : (o w : List ℕ) (m q : ℕ) (t u : Tables) → page_at o w m q u ≡ page_at o w m q t
    → ((id : PageId) → page_at o w m q t ≡ Some id → page_bytes id.key id.twin u ≡ page_bytes id.key id.twin t) → piece_of o w m q u ≡ piece_of o w m q t
piece_stays o w m q t u named bytes = ap (λ (a : Option PageId). bytes_named a u) named ∙ go (page_at o w m q t) refl
  where
    go : (a : Option PageId) → page_at o w m q t ≡ a → bytes_named a u ≡ bytes_named a t
    go None e = refl
    go (Some id) e = bytes id e
