-- Maps of what rows say, filled row by row.
use Rattle.std.proofs.Common.{◌≡◌, ◌∙◌, ◌<◌, ◌+◌, ℕ, Bool, true, false, cond, List, [], ◌∷◌, ◌++◌, length, take, get_or, Some, None, refl, sym, ap, rules, true≢false, eqb-true, eq-eqb, ◌≤◌, arith, subst, inl, inr}
use Rattle.std.specs.Prelude.{◌⊎◌, ◌&&◌, ◌==◌, ◌↔◌, Option, find, option_map, nat_lt, IsTrue, unwrap_or, nat_eq, filter, not}
use Rattle.checks.proofs.Outside.{option_or, option_eq, AllByRecursion, bytes_eq, none-some, cases_lt, BTreeMap, get, take_more, take_all, length-take-le, find-append, length-filter_more, length-filter_both, and-true, PageHead, Kept, VersionRow, VpageRow, pages_for, piece_size, names_page}
use Rattle.checks.specs.declared.keys.RowKey.{RowKey}
use Rattle.checks.specs.declared.found.Fault.{Fault}
use Rattle.checks.specs.Judging.{OfSome, Judges}
use Rattle.checks.specs.Faults.{OfHeads, PagesMiscounted, PlacesOutside, PagesMissing, TextsBroken, OfPages}
use Rattle.checks.specs.declared.found.Found.{Found}
use Rattle.checks.specs.Pages.{size_in, IsPlacedIn, count_in, piece_in, HasPieceIn, HasTextIn, IsCountedIn, NamesPage}
use Rattle.checks.specs.Inner.Places.{IsRunOf, AreRuns, HasCounts, AreRowsSound}
use Rattle.checks.specs.Inner.Heads.{IsSoundHead}
use Rattle.checks.specs.Inner.Keys.{is_key}
use Rattle.checks.specs.Inner.Firsts.{key_cmp, IsKeyOf}
use Rattle.checks.proofs.FirstsLemmas.{at_key, empty_at}
use Rattle.checks.proofs.JudgingLemmas.{judges_both, judges_as}
use Rattle.checks.proofs.KeyLemmas.{regrouped}

-- the key of a place
pub place_parts : (k : RowKey) (f s f' s' : List ℕ) (n p n' p' : ℕ) → IsKeyOf k f s n p → is_key f' s' n' p' k ≡ (bytes_eq f f' && (bytes_eq s s' && (n == n' && p == p')))
place_parts k f s f' s' n p n' p' h = rw (h.its_first, h.its_second, h.its_number, h.its_place) (regrouped (p == p') (n == n') (bytes_eq f f') (bytes_eq s s'))

-- the key of a version
pub version_parts : (k : RowKey) (f s f' s' : List ℕ) (n n' : ℕ) → IsKeyOf k f s n 0 → is_key f' s' n' 0 k ≡ (bytes_eq f f' && (bytes_eq s s' && n == n'))
version_parts k f s f' s' n n' h = place_parts k f s f' s' n 0 n' 0 h ∙ ap (λ (b : Bool). bytes_eq f f' && (bytes_eq s s' && b)) (and-true (n == n'))

-- the key of a page
pub page_parts : (k : RowKey) (f f' : List ℕ) (n n' : ℕ) → IsKeyOf k f [] n 0 → is_key f' [] n' 0 k ≡ (bytes_eq f f' && n == n')
page_parts k f f' n n' h = place_parts k f [] f' [] n 0 n' 0 h ∙ ap (λ (b : Bool). bytes_eq f f' && b) (and-true (n == n'))

module _ {X V : Type 0} (p : X → Bool) (value : X → V) where
  first_behind : (xs : List X) (x : X) → option_map value (find p (xs ++ x ∷ [])) ≡ option_or (option_map value (find p xs)) (cond (p x) (Some (value x)) None)
  first_behind xs x = ap (option_map value) (find-append p xs (x ∷ [])) ∙ by (find p xs) (p x)
    where
      by : (o : Option X) (b : Bool) → option_map value (option_or o (cond b (Some x) None)) ≡ option_or (option_map value o) (cond b (Some (value x)) None)
      by (Some y) b = refl
      by None true = refl
      by None false = refl

  -- the value of the first row that passes, after one row more
  pub first_more : (xs : List X) (i : ℕ) (item : X) (old new : Option V) → i < length xs → item ≡ get_or xs i item → old ≡ option_map value (find p (take i xs)) → new ≡ option_or old (cond (p item) (Some (value item)) None) → new ≡ option_map value (find p (take (i + 1) xs))
  first_more xs i item old new below is so_far step =
      rw (take_more xs i item below, ← is) (step ∙ ap (λ (o : Option V). option_or o (cond (p item) (Some (value item)) None)) so_far ∙ sym (first_behind (take i xs) item))

-- the place is below the number of the pages of the version's text
pub placed_below : (versions : List (Kept VersionRow)) (x : VpageRow) (size pages : ℕ) → size_in x.org x.ws x.number versions ≡ Some size → pages ≡ pages_for size → IsTrue (nat_lt x.place pages) ↔ IsPlacedIn versions x
placed_below versions x size pages found are = rw (found, are) (search rules)

-- the version isn't there
pub placed_nowhere : (versions : List (Kept VersionRow)) (x : VpageRow) → size_in x.org x.ws x.number versions ≡ None → IsTrue false ↔ IsPlacedIn versions x
placed_nowhere versions x absent = rw absent (search rules)

-- the number that the map has for the page
pub count_here : (vpages : List (Kept VpageRow)) (h : PageHead) (count : ℕ) (key : RowKey) (m : BTreeMap RowKey ℕ) → HasCounts vpages m → IsKeyOf key h.key [] h.twin 0 → count ≡ unwrap_or (get key_cmp m key) 0 → count ≡ count_in h.key h.twin vpages
count_here vpages h count key m has is count_is = count_is ∙ ap (λ (o : Option ℕ). unwrap_or o 0) (sym (at_key h.key [] h.twin 0 key m is)) ∙ has h.key h.twin

both_some : (a b : ℕ) → Some (Some a) ≡ Some (Some b) → a ≡ b
both_some a b h = cc

nothing_there : {A : Type 0} (p : Option ℕ) → None ≡ Some p → A
nothing_there p h = absurd (none-some p h)

-- the map has a row at the place, and whether its page has so many bytes
pub size_there : (found : Option (Option ℕ)) (piece : Option ℕ) (size : ℕ) (same : Bool) → found ≡ Some piece → same ≡ option_eq nat_eq piece (Some size) → IsTrue same ↔ (found ≡ Some (Some size))
size_there found None size same is test = rw (is, test) (λ h. absurd (true≢false (sym h)), λ h. cc)
size_there found (Some n) size same is test = rw (is, test) (λ h. ap (λ (m : ℕ). Some (Some m)) (eqb-true n size h), λ h. eq-eqb n size (both_some n size h))

-- no row stands at the place
pub size_nowhere : (found : Option (Option ℕ)) (size : ℕ) → found ≡ None → IsTrue false ↔ (found ≡ Some (Some size))
size_nowhere found size absent = (λ h. absurd (true≢false (sym h)), λ h. nothing_there _ (sym absent ∙ h))

-- ---- runs

whole_piece : (size place : ℕ) → place + 1 < pages_for size → piece_size size place ≡ 16_384
whole_piece size place below = omega arith

-- the text is whole where its first places but the last have whole pages, and the last one has the rest
pub whole_by_run : (heads : List PageHead) (vpages : List (Kept VpageRow)) (x : VersionRow) (run last : ℕ) → last + 1 ≡ pages_for x.it.size → last ≤ run → (same : Bool)
    → (IsTrue same ↔ (piece_in x.org x.name x.it.number last heads vpages ≡ Some (Some (piece_size x.it.size last)))) → IsRunOf heads vpages x.org x.name x.it.number run → IsTrue same ↔ HasTextIn heads vpages x
whole_by_run heads vpages x run last are long same is runs = (λ h place below. by h place below (cases_lt place last), λ law. is.1 (law last (omega arith)))
  where
    by : IsTrue same → (place : ℕ) → place < pages_for x.it.size → (place < last) ⊎ (last ≤ place) → HasPieceIn heads vpages x place
    by h place below (inl less) = runs.full place (omega arith) ∙ ap (λ (n : ℕ). Some (Some n)) (sym (whole_piece x.it.size place (omega arith)))
    by h place below (inr more) =
        let e : last ≡ place = omega arith in
        subst (λ (n : ℕ). HasPieceIn heads vpages x n) e (is.0 h)

-- no run is known in an empty map
pub no_runs : (heads : List PageHead) (vpages : List (Kept VpageRow)) (m : BTreeMap RowKey ℕ) → m.entries ≡ [] → AreRuns heads vpages m
no_runs heads vpages m empty org ws n = rw (empty_at org ws n 0 m empty) tt

-- how many rows pass, after one row more
pub count_more : {X : Type 0} (p : X → Bool) (xs : List X) (i : ℕ) (item : X) (old new : ℕ) → i < length xs → item ≡ get_or xs i item → old ≡ length (filter p (take i xs)) → new ≡ old + cond (p item) 1 0 → new ≡ length (filter p (take (i + 1) xs))
count_more p xs i item old new below is so_far step = rw (length-filter_more p xs i item below, ← is) (step ∙ ap (λ (n : ℕ). n + cond (p item) 1 0) so_far)

-- no more rows have come than so many
pub few : (vpages : List (Kept VpageRow)) (i : ℕ) (x : VpageRow) (key : RowKey) (m : BTreeMap RowKey ℕ) → i < length vpages → HasCounts (take i vpages) m → IsKeyOf key x.key [] x.twin 0 → unwrap_or (get key_cmp m key) 0 ≤ i
few vpages i x key m below has is =
    let some = take i vpages in
    let passes = names_page x.key x.twin in
    let all : length some ≡ i = length-take-le i vpages (omega arith) in
    let parts = length-filter_both passes (λ y. not (passes y)) (λ y. refl) some in
    let at : unwrap_or (get key_cmp m key) 0 ≡ length (filter passes some) = ap (λ (o : Option ℕ). unwrap_or o 0) (sym (at_key x.key [] x.twin 0 key m is)) ∙ has x.key x.twin in
    omega (arith, parts, at, all)

-- one check after the other finds what is wrong with any of the rows
pub judges_rows : (heads : List PageHead) (versions : List (Kept VersionRow)) (vpages : List (Kept VpageRow)) (v w x y z : Found)
    → Judges (OfHeads vpages heads) (AllByRecursion IsSoundHead heads) v w → Judges (PagesMiscounted vpages heads) (AllByRecursion (IsCountedIn vpages) heads) w x
    → Judges (PlacesOutside versions vpages) (AllByRecursion (λ r. IsPlacedIn versions r.1) vpages) x y
    → Judges (λ f. PagesMissing heads vpages f ⊎ TextsBroken heads vpages versions f) (AllByRecursion (λ r. NamesPage heads r.1) vpages × AllByRecursion (λ r. HasTextIn heads vpages r.1) versions) y z
    → Judges (OfPages heads versions vpages) (AreRowsSound heads versions vpages) v z
judges_rows heads versions vpages v w x y z one two three four =
    judges_as v z
    (λ laws. record { heads_sound = laws.0; counts = laws.1.0; places = laws.1.1.0; names = laws.1.1.1.0; whole = laws.1.1.1.1 })
    (λ sound. (sound.heads_sound, (sound.counts, (sound.places, (sound.names, sound.whole)))))
    (judges_both v w z one (judges_both w x z two (judges_both x y z three four)))

-- all rows are looked at
pub judges_all : {X : Type 0} (Says : X → Fault → Type 0) (P : X → Type 0) (xs : List X) (i : ℕ) (x y : Found) → length xs ≤ i → Judges (OfSome Says (take i xs)) (AllByRecursion P (take i xs)) x y
    → Judges (OfSome Says xs) (AllByRecursion P xs) x y
judges_all Says P xs i x y past so_far = rw (take_all i xs past) at so_far
