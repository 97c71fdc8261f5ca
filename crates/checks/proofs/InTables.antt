-- What holds of heads of pages and of rows, and what holds of the tables that have them.
use Rattle.std.proofs.Common.{◌≡◌, ◌∙◌, ◌≤◌, ℕ, Bool, true, false, cond, List, [], ◌∷◌, length, map, Some, None, refl, sym, ap, subst, true≢false, eqb-true, eq-eqb, arith}
use Rattle.std.specs.Prelude.{◌&&◌, ◌==◌, Option, find, filter, option_map, unwrap_or, IsSome, is_some}
use Rattle.checks.proofs.Outside.{AllByRecursion, bytes_eq, nat_list_eq_equiv, bytes_eq-Decides, none-some, same_Some, and_parts, and_from, false_from_ne_true, AreApart, is_some-map, all_weaker, all_both, all_map, all_unmap, PageHead, Kept, PageRow, VersionRow, VpageRow, Tables, is_page, is_equal_page, page_use, page_uses, has_twin, head_in, names_page, is_place, page_name, bytes_named, piece_of, piece_size, HasText}
use Rattle.texts.proofs.WholeReads.{all_found}
use Rattle.checks.specs.declared.found.Found.{Found}
use Rattle.checks.specs.Judging.{Judges}
use Rattle.checks.specs.Faults.{SamePages, SamePlaces, OfPages, OfTexts}
use Rattle.checks.specs.Inner.Heads.{IsSoundHead}
use Rattle.checks.proofs.JudgingLemmas.{judges_both, judges_as}
use Rattle.checks.proofs.PageKeys.{heads_apart}
use Rattle.checks.proofs.KeyLemmas.{bytes_turned}
use Rattle.checks.proofs.Lent.{find_mapped}
use Rattle.checks.specs.Pages.{is_head, page_size_in, NamesPage, count_in, IsCountedIn, named_size_in, HasTextIn}
use Rattle.checks.specs.Inner.Places.{AreRowsSound, AreTextsSound}

-- ---- tests

twin_back : (a b : ℕ) → a == b ≡ true → b == a ≡ true
twin_back a b is = eq-eqb b a (sym (eqb-true a b is))

equal_back : (a b : Kept PageRow) → is_equal_page a.1.key a.1.bytes b ≡ is_equal_page b.1.key b.1.bytes a
equal_back a b = rw (bytes_turned b.1.key a.1.key, bytes_turned b.1.bytes a.1.bytes) refl

page_back : (a b : Kept PageRow) → is_page b.1.key b.1.twin a ≡ true → is_page a.1.key a.1.twin b ≡ true
page_back a b is =
    let parts = and_parts (bytes_eq a.1.key b.1.key) (a.1.twin == b.1.twin) is in
    and_from (bytes_eq b.1.key a.1.key) (b.1.twin == a.1.twin) (bytes_turned b.1.key a.1.key ∙ parts.0) (twin_back a.1.twin b.1.twin parts.1)

page_itself : (x : Kept PageRow) → is_page x.1.key x.1.twin x ≡ true
page_itself x = and_from (bytes_eq x.1.key x.1.key) (x.1.twin == x.1.twin) (nat_list_eq_equiv.refl x.1.key) (eq-eqb x.1.twin x.1.twin refl)

equal_itself : (x : Kept PageRow) → is_equal_page x.1.key x.1.bytes x ≡ true
equal_itself x = and_from (bytes_eq x.1.key x.1.key) (bytes_eq x.1.bytes x.1.bytes) (nat_list_eq_equiv.refl x.1.key) (nat_list_eq_equiv.refl x.1.bytes)

-- ---- lists

module _ {X : Type 0} where
  all_two : (P Q R S : X → Type 0) → ((x : X) → P x → Q x → R x × S x) → (xs : List X) → AllByRecursion P xs → AllByRecursion Q xs → AllByRecursion R xs × AllByRecursion S xs
  all_two P Q R S step [] p q = (tt, tt)
  all_two P Q R S step (x ∷ xs) p q =
      let here = step x p.0 q.0 in
      let rest = all_two P Q R S step xs p.1 q.1 in
      ((here.0, rest.0), (here.1, rest.1))

  all_parts : (P Q : X → Type 0) (xs : List X) → AllByRecursion P xs → AllByRecursion Q xs → AllByRecursion (λ x. P x × Q x) xs
  all_parts P Q xs p q = all_both P Q (λ x. P x × Q x) (λ x here also. (here, also)) xs p q

-- ---- pages that are apart

-- the first page of the key with these bytes has this twin number
abbrev IsFirst : List (Kept PageRow) → Kept PageRow → Type 0
IsFirst all x = has_twin (option_map page_use (find (is_equal_page x.1.key x.1.bytes) all)) x.1.twin ≡ true

first_behind : (x b : Kept PageRow) (xs : List (Kept PageRow)) → is_equal_page x.1.key x.1.bytes b ≡ false → IsFirst xs b → IsFirst (x ∷ xs) b
first_behind x b xs other first = rw (sym (equal_back x b) ∙ other) first

first_before : (x b : Kept PageRow) (xs : List (Kept PageRow)) → is_page x.1.key x.1.twin b ≡ false → IsFirst (x ∷ xs) b → (is_equal_page x.1.key x.1.bytes b ≡ false) × IsFirst xs b
first_before x b xs apart first = by (is_equal_page b.1.key b.1.bytes x) refl
  where
    by : (e : Bool) → is_equal_page b.1.key b.1.bytes x ≡ e → (is_equal_page x.1.key x.1.bytes b ≡ false) × IsFirst xs b
    by true is =
        let twins : x.1.twin == b.1.twin ≡ true = rw is at first in
        let keys = and_parts (bytes_eq x.1.key b.1.key) (bytes_eq x.1.bytes b.1.bytes) is in
        absurd (true≢false (sym (page_back x b (and_from (bytes_eq x.1.key b.1.key) (x.1.twin == b.1.twin) keys.0 twins)) ∙ apart))
    by false is = (equal_back x b ∙ is, rw is at first)

-- where no two pages have one key and twin number, and each is the first of its key with its bytes, no two of one key have equal bytes
differ_to : (xs : List (Kept PageRow)) → AreApart (λ a b. is_page a.1.key a.1.twin b) xs → AllByRecursion (IsFirst xs) xs → AreApart (λ a b. is_equal_page a.1.key a.1.bytes b) xs
differ_to [] apart firsts = tt
differ_to (x ∷ xs) apart firsts =
    let both = all_two (λ b. is_page x.1.key x.1.twin b ≡ false) (IsFirst (x ∷ xs)) (λ b. is_equal_page x.1.key x.1.bytes b ≡ false) (IsFirst xs) (λ b. first_before x b xs) xs apart.0 firsts.1 in
    (both.0, differ_to xs apart.1 both.1)

differ_from : (xs : List (Kept PageRow)) → AreApart (λ a b. is_equal_page a.1.key a.1.bytes b) xs → AllByRecursion (IsFirst xs) xs
differ_from [] differ = tt
differ_from (x ∷ xs) differ =
    (rw (equal_itself x) (eq-eqb x.1.twin x.1.twin refl), all_both (λ b. is_equal_page x.1.key x.1.bytes b ≡ false) (IsFirst xs) (IsFirst (x ∷ xs)) (λ b. first_behind x b xs) xs differ.0 (differ_from xs differ.1))

-- each page is the one that its key and twin number find
finds_itself : (xs : List (Kept PageRow)) → AreApart (λ a b. is_page a.1.key a.1.twin b) xs → AllByRecursion (λ x. find (is_page x.1.key x.1.twin) xs ≡ Some x) xs
finds_itself [] apart = tt
finds_itself (x ∷ xs) apart =
    (rw (page_itself x) refl, all_both (λ b. is_page x.1.key x.1.twin b ≡ false) (λ b. find (is_page b.1.key b.1.twin) xs ≡ Some b) (λ b. find (is_page b.1.key b.1.twin) (x ∷ xs) ≡ Some b) (λ b other found. rw (false_from_ne_true (is_page b.1.key b.1.twin x) (λ is. true≢false (sym (page_back x b is) ∙ other))) found) xs apart.0 (finds_itself xs apart.1))

-- ---- rows that name pages

names_itself : (y : Kept VpageRow) → names_page y.1.key y.1.twin y ≡ true
names_itself y = and_from (bytes_eq y.1.key y.1.key) (y.1.twin == y.1.twin) (nat_list_eq_equiv.refl y.1.key) (eq-eqb y.1.twin y.1.twin refl)

one_longer : (p : Kept VpageRow → Bool) (v : Kept VpageRow) (vs : List (Kept VpageRow)) → 1 ≤ length (filter p vs) → 1 ≤ length (filter p (v ∷ vs))
one_longer p v vs some = by (p v)
  where
    by : (b : Bool) → 1 ≤ length (cond b (v ∷ filter p vs) (filter p vs))
    by true = omega arith
    by false = some

-- each row names a page that a row names
each_named : (vs : List (Kept VpageRow)) → AllByRecursion (λ y. 1 ≤ count_in y.1.key y.1.twin vs) vs
each_named [] = tt
each_named (v ∷ vs) = (
  rw (names_itself v) (let n = length (filter (names_page v.1.key v.1.twin) vs) in omega arith),
  all_weaker (λ y. 1 ≤ count_in y.1.key y.1.twin vs) (λ y. 1 ≤ count_in y.1.key y.1.twin (v ∷ vs)) (λ y some. one_longer (names_page y.1.key y.1.twin) v vs some) vs (each_named vs),
)

-- a page that isn't there is named by no row
none_names : (key : List ℕ) (twin : ℕ) (pages : List (Kept PageRow)) → find (is_page key twin) pages ≡ None → (vs : List (Kept VpageRow)) → AllByRecursion (λ y. IsSome (find (is_page y.1.key y.1.twin) pages)) vs → count_in key twin vs ≡ 0
none_names key twin pages absent [] all = refl
none_names key twin pages absent (v ∷ vs) all = by (names_page key twin v) refl (none_names key twin pages absent vs all.1)
  where
    by : (b : Bool) → names_page key twin v ≡ b → count_in key twin vs ≡ 0 → length (cond b (v ∷ filter (names_page key twin) vs) (filter (names_page key twin) vs)) ≡ 0
    by true names rest =
        let parts = and_parts (bytes_eq v.1.key key) (v.1.twin == twin) names in
        let its_key : v.1.key ≡ key = (bytes_eq-Decides v.1.key key).0 parts.0 in
        let its_twin : v.1.twin ≡ twin = eqb-true v.1.twin twin parts.1 in
        let there : is_some (find (is_page key twin) pages) ≡ true = subst (λ (n : ℕ). IsSome (find (is_page key n) pages)) its_twin (subst (λ (k : List ℕ). IsSome (find (is_page k v.1.twin) pages)) its_key all.0) in
        absurd (true≢false (sym there ∙ ap is_some absent))
    by false names rest = rest

some_used : (o : Option (Kept PageRow)) (n : ℕ) → unwrap_or (option_map (λ x. x.1.uses) o) 0 ≡ n → 1 ≤ n → IsSome o
some_used (Some x) n is some = refl
some_used None n is some = absurd (omega arith)

-- ---- heads

module _ (key_of : List ℕ → List ℕ) (t : Tables) where
  abbrev heads : List PageHead
  heads = map (head_in key_of t) t.pages

  abbrev Counted : Type 0
  Counted = (key : List ℕ) (twin : ℕ) → unwrap_or (page_uses key twin t) 0 ≡ count_in key twin t.vpages

  page_size_at : (key : List ℕ) (twin : ℕ) → page_size_in key twin heads ≡ option_map (λ x. length x.1.bytes) (find (is_page key twin) t.pages)
  page_size_at key twin = ap (option_map (λ h. h.size)) (find_mapped (head_in key_of t) (is_head key twin) t.pages) ∙ by (find (is_page key twin) t.pages)
    where
      by : (o : Option (Kept PageRow)) → option_map (λ h. h.size) (option_map (head_in key_of t) o) ≡ option_map (λ x. length x.1.bytes) o
      by None = refl
      by (Some x) = refl

  is_some_page : (key : List ℕ) (twin : ℕ) → is_some (page_size_in key twin heads) ≡ is_some (find (is_page key twin) t.pages)
  is_some_page key twin = ap is_some (page_size_at key twin) ∙ is_some-map (λ x. length x.1.bytes) (find (is_page key twin) t.pages)

  -- the uses of each page are the rows that name it
  counts_of_pages : AreApart (λ a b. is_page a.1.key a.1.twin b) t.pages → Counted → AllByRecursion (IsCountedIn t.vpages) heads
  counts_of_pages apart counted =
      all_map (IsCountedIn t.vpages) (head_in key_of t) t.pages
      (all_weaker (λ x. find (is_page x.1.key x.1.twin) t.pages ≡ Some x) (λ x. x.1.uses ≡ count_in x.1.key x.1.twin t.vpages)
      (λ x found. sym (ap (λ (o : Option (Kept PageRow)). unwrap_or (option_map (λ y. y.1.uses) o) 0) found) ∙ counted x.1.key x.1.twin) t.pages (finds_itself t.pages apart))

  -- each row names a page that is there
  names_of_rows : Counted → AllByRecursion (λ y. NamesPage heads y.1) t.vpages
  names_of_rows counted =
      all_weaker (λ y. 1 ≤ count_in y.1.key y.1.twin t.vpages) (λ y. NamesPage heads y.1)
      (λ y some. is_some_page y.1.key y.1.twin ∙ some_used (find (is_page y.1.key y.1.twin) t.pages) _ (counted y.1.key y.1.twin) some) t.vpages (each_named t.vpages)

  counted_by : AllByRecursion (IsCountedIn t.vpages) heads → AllByRecursion (λ y. NamesPage heads y.1) t.vpages → Counted
  counted_by counts names key twin = by (find (is_page key twin) t.pages) refl
    where
      by : (o : Option (Kept PageRow)) → find (is_page key twin) t.pages ≡ o → unwrap_or (option_map (λ x. x.1.uses) o) 0 ≡ count_in key twin t.vpages
      by None absent =
          sym (none_names key twin t.pages absent t.vpages (all_weaker (λ y. NamesPage heads y.1) (λ y. IsSome (find (is_page y.1.key y.1.twin) t.pages)) (λ y there. sym (is_some_page y.1.key y.1.twin) ∙ there) t.vpages names))
      by (Some x) found =
          let one = all_found (λ x. x.1.uses ≡ count_in x.1.key x.1.twin t.vpages) (is_page key twin) t.pages x found (all_unmap (IsCountedIn t.vpages) (head_in key_of t) t.pages counts) in
          let parts = and_parts (bytes_eq x.1.key key) (x.1.twin == twin) one.1 in
          let its_key : x.1.key ≡ key = (bytes_eq-Decides x.1.key key).0 parts.0 in
          let its_twin : x.1.twin ≡ twin = eqb-true x.1.twin twin parts.1 in
          one.0 ∙ ap (λ (k : List ℕ). count_in k x.1.twin t.vpages) its_key ∙ ap (λ (n : ℕ). count_in key n t.vpages) its_twin

  -- ---- texts

  abbrev HasPiece : VersionRow → ℕ → Type 0
  HasPiece x place = (bytes : List ℕ) × (piece_of x.org x.name x.it.number place t ≡ Some bytes) × (length bytes ≡ piece_size x.it.size place)

  sized_to : (o : Option (Kept PageRow)) (n : ℕ) → option_map (λ x. length x.1.bytes) o ≡ Some n → (bytes : List ℕ) × (option_map (λ x. x.1.bytes) o ≡ Some bytes) × (length bytes ≡ n)
  sized_to None n is = absurd (none-some n is)
  sized_to (Some x) n is = (x.1.bytes, refl, same_Some _ n is)

  sized_from : (o : Option (Kept PageRow)) (n : ℕ) (bytes : List ℕ) → option_map (λ x. x.1.bytes) o ≡ Some bytes → length bytes ≡ n → option_map (λ x. length x.1.bytes) o ≡ Some n
  sized_from None n bytes is size = absurd (none-some bytes is)
  sized_from (Some x) n bytes is size = ap Some (ap length (same_Some x.1.bytes bytes is) ∙ size)

  piece_to : (o : Option (Kept VpageRow)) (n : ℕ) → option_map (named_size_in heads) o ≡ Some (Some n) → (bytes : List ℕ) × (bytes_named (option_map page_name o) t ≡ Some bytes) × (length bytes ≡ n)
  piece_to None n is = absurd (none-some (Some n) is)
  piece_to (Some y) n is = sized_to (find (is_page y.1.key y.1.twin) t.pages) n (sym (page_size_at y.1.key y.1.twin) ∙ same_Some _ (Some n) is)

  piece_from : (o : Option (Kept VpageRow)) (n : ℕ) (bytes : List ℕ) → bytes_named (option_map page_name o) t ≡ Some bytes → length bytes ≡ n → option_map (named_size_in heads) o ≡ Some (Some n)
  piece_from None n bytes is size = absurd (none-some bytes is)
  piece_from (Some y) n bytes is size = ap Some (page_size_at y.1.key y.1.twin ∙ sized_from (find (is_page y.1.key y.1.twin) t.pages) n bytes is size)

  text_to : (x : Kept VersionRow) → HasTextIn heads t.vpages x.1 → HasText t x
  text_to x whole place below = piece_to (find (is_place x.1.org x.1.name x.1.it.number place) t.vpages) (piece_size x.1.it.size place) (whole place below)

  text_from : (x : Kept VersionRow) → HasText t x → HasTextIn heads t.vpages x.1
  text_from x whole place below =
      let there = whole place below in
      piece_from (find (is_place x.1.org x.1.name x.1.it.number place) t.vpages) (piece_size x.1.it.size place) there.0 there.1 there.2

  -- ---- all of them

  -- what is looked for in turn: that no two pages have one key and twin number, that no two rows have one place, and the laws of rows
  abbrev RowLaws : Type 0
  RowLaws = AreApart (λ (a b : PageHead). bytes_eq b.key a.key && b.twin == a.twin) heads × AreApart (λ a b. is_place a.1.org a.1.ws a.1.number a.1.place b) t.vpages × AreRowsSound heads t.versions t.vpages

  pub sound_to : RowLaws → AreTextsSound key_of t
  sound_to laws =
      let sound = laws.2 in
      let apart = (heads_apart key_of t t.pages).0 laws.0 in
      let each : AllByRecursion (λ x. IsSoundHead (head_in key_of t x)) t.pages = all_unmap IsSoundHead (head_in key_of t) t.pages sound.heads_sound in
      record {
        places = record {
          pages = record {
            apart = apart;
            differ = differ_to t.pages apart (all_weaker (λ x. IsSoundHead (head_in key_of t x)) (IsFirst t.pages) (λ x h. h.first) t.pages each);
            used = all_weaker (λ x. IsSoundHead (head_in key_of t x)) (λ x. 1 ≤ x.1.uses) (λ x h. h.used) t.pages each;
          };
          counted = counted_by sound.counts sound.names;
          apart = laws.1;
        };
        keyed = all_weaker (λ x. IsSoundHead (head_in key_of t x)) (λ x. key_of x.1.bytes ≡ x.1.key) (λ x h. (bytes_eq-Decides (key_of x.1.bytes) x.1.key).0 h.keyed) t.pages each;
        placed = sound.places;
        texts = all_weaker (λ x. HasTextIn heads t.vpages x.1) (HasText t) text_to t.versions sound.whole;
      }

  pub sound_from : AreTextsSound key_of t → RowLaws
  sound_from sound =
      let places = sound.places in
      let apart = places.pages.apart in (
        (heads_apart key_of t t.pages).1 apart,
        places.apart,
        record {
          heads_sound = all_map IsSoundHead (head_in key_of t) t.pages
              (all_both (λ x. (1 ≤ x.1.uses) × (key_of x.1.bytes ≡ x.1.key)) (IsFirst t.pages) (λ x. IsSoundHead (head_in key_of t x)) (λ x h first. record { used = h.0; keyed = (bytes_eq-Decides (key_of x.1.bytes) x.1.key).1 h.1; first = first }) t.pages
              (all_parts (λ x. 1 ≤ x.1.uses) (λ x. key_of x.1.bytes ≡ x.1.key) t.pages places.pages.used sound.keyed) (differ_from t.pages places.pages.differ));
          counts = counts_of_pages apart places.counted;
          places = sound.placed;
          names = names_of_rows places.counted;
          whole = all_weaker (HasText t) (λ x. HasTextIn heads t.vpages x.1) text_from t.versions sound.texts;
        },
      )

-- the checks at rows tell whether the tables are sound
pub judges_tables : (key_of : List ℕ → List ℕ) (t : Tables) (pages : List PageHead) (versions : List (Kept VersionRow)) (vpages : List (Kept VpageRow)) (w x y z : Found)
    → pages ≡ map (head_in key_of t) t.pages → versions ≡ t.versions → vpages ≡ t.vpages
    → Judges (SamePages pages) (AreApart (λ (a b : PageHead). bytes_eq b.key a.key && b.twin == a.twin) pages) w x → Judges (SamePlaces vpages) (AreApart (λ a b. is_place a.1.org a.1.ws a.1.number a.1.place b) vpages) x y
    → Judges (OfPages pages versions vpages) (AreRowsSound pages versions vpages) y z
    → Judges (OfTexts pages versions vpages) (AreTextsSound key_of t) w z
judges_tables key_of t pages versions vpages w x y z heads_are versions_are vpages_are one two three =
    let apart = subst (λ (hs : List PageHead). Judges (SamePages pages) (AreApart (λ (a b : PageHead). bytes_eq b.key a.key && b.twin == a.twin) hs) w x) heads_are one in
    let apart_rows = subst (λ (vs : List (Kept VpageRow)). Judges (SamePlaces vpages) (AreApart (λ a b. is_place a.1.org a.1.ws a.1.number a.1.place b) vs) x y) vpages_are two in
    let rows = subst (λ (vs : List (Kept VpageRow)). Judges (OfPages pages versions vpages) (AreRowsSound (map (head_in key_of t) t.pages) t.versions vs) y z) vpages_are
    (subst (λ (vs : List (Kept VersionRow)). Judges (OfPages pages versions vpages) (AreRowsSound (map (head_in key_of t) t.pages) vs vpages) y z) versions_are (subst (λ (hs : List PageHead). Judges (OfPages pages versions vpages) (AreRowsSound hs versions vpages) y z) heads_are three)) in
    judges_as w z (λ laws. sound_to key_of t (laws.0, laws.1.0, laws.1.1)) (λ sound. let laws = sound_from key_of t sound in (laws.0, (laws.1, laws.2))) (judges_both w x z apart (judges_both x y z apart_rows rows))
