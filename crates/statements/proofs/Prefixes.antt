-- Names that begin with a prefix are those from it on, up to the least text behind all of them.
use Rattle.statements.proofs.Outside.{◌≡◌, ◌≢◌, ℕ, zero, suc, ◌+◌, ◌-◌, ◌<◌, length, take, get_or, slice_range, IsTrue, ◌++◌, ap₂, Bool, true, false, ◌&&◌, if◌then◌else◌, List, [], ◌∷◌, refl, sym, ap, ◌∙◌, arith, Ordering, Some, Bor, Less, Equal, Greater, is_lt, is_gt, true≢false, slice_partial_cmp, nat_list_cmp_total, nat_tests, upto, list_all, and_parts, eqb-true, admits, is_prefix, is_ws_byte, has_length}
use Rattle.std.specs.Prelude.{nat_eq, ◌==◌}
use Rattle.std.specs.Ordering.{ordering_then, partial_ordering_then, partial_lt, is_some_and, ordering_reverse, nat_cmp, is_le}
use Rattle.basis.specs.declared.names.TheConstants.{MAX_PREFIX}
use Rattle.statements.specs.Listings.{text_cmp, is_behind, later_of, end_of}

-- no text is below the empty one
not_below : (m : List ℕ) → is_lt (text_cmp m []) ≡ false
not_below [] = refl
not_below (x ∷ m) = refl

from_empty : (m : List ℕ) → is_le (text_cmp [] m) ≡ true
from_empty [] = refl
from_empty (x ∷ m) = refl

below_next : (b c : ℕ) → nat_cmp b c ≡ Equal → nat_cmp c (b + 1) ≡ Less
below_next b c e = grind (arith, nat_tests)

not_below_next : (b c : ℕ) → nat_cmp b c ≡ Less → nat_cmp c (b + 1) ≢ Less
not_below_next b c e f = grind (arith, nat_tests)

behind_then : (b c : ℕ) (m : List ℕ) → nat_cmp b c ≡ Less → is_lt (ordering_then (nat_cmp c (b + 1)) (text_cmp m [])) ≡ false
behind_then b c m e = go (nat_cmp c (b + 1)) refl
  where
    go : (o : Ordering) → nat_cmp c (b + 1) ≡ o → is_lt (ordering_then o (text_cmp m [])) ≡ false
    go Less f = absurd (not_below_next b c e f)
    go Equal f = not_below m
    go Greater f = refl

same_number : (b c : ℕ) → nat_cmp b c ≡ Equal → nat_eq b c ≡ true
same_number b c e = grind (arith, nat_tests)

less_number : (b c : ℕ) → nat_cmp b c ≡ Less → nat_eq b c ≡ false
less_number b c e = grind (arith, nat_tests)

more_number : (b c : ℕ) → nat_cmp b c ≡ Greater → nat_eq b c ≡ false
more_number b c e = grind (arith, nat_tests)

turned_less : (b c : ℕ) → nat_cmp b c ≡ Less → nat_cmp c b ≡ Greater
turned_less b c e = grind (arith, nat_tests)

turned_same : (b c : ℕ) → nat_cmp b c ≡ Equal → nat_cmp c b ≡ Equal
turned_same b c e = grind (arith, nat_tests)

-- from the prefix on, and before its end
abbrev is_within : List ℕ → List ℕ → Bool
is_within prefix n = is_le (text_cmp prefix n) && is_lt (text_cmp n (end_of prefix))

begins : (prefix n : List ℕ) → prefix ≢ [] → is_within prefix n ≡ admits prefix n
begins [] n some = absurd (some refl)
begins (b ∷ []) [] some = refl
begins (b ∷ []) (c ∷ m) some = go (nat_cmp b c) refl
  where
    go : (o : Ordering) → nat_cmp b c ≡ o → is_within (b ∷ []) (c ∷ m) ≡ (nat_eq b c && true)
    go Less e = rw (e, behind_then b c m e, less_number b c e) refl
    go Equal e = rw (e, below_next b c e, from_empty m, same_number b c e) refl
    go Greater e = rw (e, more_number b c e) refl
begins (b ∷ d ∷ p) [] some = refl
begins (b ∷ d ∷ p) (c ∷ m) some = go (nat_cmp b c) refl (begins (d ∷ p) m (λ none. absurd (let e = none in cc)))
  where
    go : (o : Ordering) → nat_cmp b c ≡ o → is_within (d ∷ p) m ≡ admits (d ∷ p) m → is_within (b ∷ d ∷ p) (c ∷ m) ≡ (nat_eq b c && admits (d ∷ p) m)
    go Less e more = rw (e, turned_less b c e, less_number b c e) refl
    go Equal e more = rw (e, turned_same b c e, same_number b c e) more
    go Greater e more = rw (e, more_number b c e) refl

le_if : (o : Ordering) → is_gt o ≡ false → is_le o ≡ true
le_if Less h = refl
le_if Equal h = refl
le_if Greater h = absurd (true≢false h)

not_gt : (o : Ordering) → is_lt o ≡ true → is_gt o ≡ false
not_gt Less h = refl
not_gt Equal h = refl
not_gt Greater h = absurd (true≢false (sym h))

pub not_gt_back : (o : Ordering) → is_lt o ≡ false → is_gt (ordering_reverse o) ≡ false
not_gt_back Less h = absurd (true≢false h)
not_gt_back Equal h = refl
not_gt_back Greater h = refl

-- a scan from the greater of the two to the end passes those behind a name that begin with the prefix
pub within : (after prefix n : List ℕ) → prefix ≢ []
    → (is_behind after n && (is_le (text_cmp (later_of after prefix) n) && is_lt (text_cmp n (end_of prefix)))) ≡ (is_behind after n && admits prefix n)
within after prefix n some = go (is_behind after n) (is_lt (text_cmp after prefix)) refl refl
  where
    go : (behind before : Bool) → is_behind after n ≡ behind → is_lt (text_cmp after prefix) ≡ before
        → (behind && (is_le (text_cmp (if before then prefix else after) n) && is_lt (text_cmp n (end_of prefix)))) ≡ (behind && admits prefix n)
    go false before e f = refl
    go true true e f = begins prefix n some
    go true false e f =
        let first : is_gt (text_cmp prefix after) ≡ false = ap is_gt (nat_list_cmp_total.antisymm prefix after) ∙ not_gt_back (text_cmp after prefix) f in
        let low = le_if (text_cmp prefix n) (upto nat_list_cmp_total prefix after n first (not_gt (text_cmp after n) e)) in
        let here = le_if (text_cmp after n) (not_gt (text_cmp after n) e) in
        ap (λ b. b && is_lt (text_cmp n (end_of prefix))) (here ∙ sym low) ∙ begins prefix n some

-- the empty prefix admits each
pub all_admitted : (behind : Bool) (n : List ℕ) → behind ≡ (behind && admits [] n)
all_admitted true n = refl
all_admitted false n = refl

-- ---- bytes as Rust compares them

compared : (xs ys : List ℕ) → slice_partial_cmp (λ x y. Some (nat_cmp x y)) xs ys ≡ Some (text_cmp xs ys)
compared [] [] = refl
compared [] (y ∷ ys) = refl
compared (x ∷ xs) [] = refl
compared (x ∷ xs) (y ∷ ys) = go (nat_cmp x y) (compared xs ys)
  where
    go : (o : Ordering) → slice_partial_cmp (λ x y. Some (nat_cmp x y)) xs ys ≡ Some (text_cmp xs ys)
        → partial_ordering_then (Some o) (slice_partial_cmp (λ x y. Some (nat_cmp x y)) xs ys) ≡ Some (ordering_then o (text_cmp xs ys))
    go Less more = refl
    go Equal more = more
    go Greater more = refl

pub less_bytes : (a b : Bor (List ℕ)) → partial_lt (λ (x y : Bor (List ℕ)). slice_partial_cmp (λ m n. Some (nat_cmp m n)) x.now y.now) a b ≡ is_lt (text_cmp a.now b.now)
less_bytes a b = ap (is_some_and is_lt) (compared a.now b.now)

-- the code's test, and what it means
pub later_if : (after prefix : List ℕ) (less : Bool) (a b : Bor (List ℕ)) → less ≡ partial_lt (λ (x y : Bor (List ℕ)). slice_partial_cmp (λ m n. Some (nat_cmp m n)) x.now y.now) a b → a.now ≡ after → b.now ≡ prefix
    → later_of after prefix ≡ (if less then prefix else after)
later_if after prefix less a b is first second =
    ap (λ t. if t then prefix else after) (ap (λ l. is_lt (text_cmp l prefix)) (sym first) ∙ ap (λ l. is_lt (text_cmp a.now l)) (sym second) ∙ sym (less_bytes a b) ∙ sym is)

-- ---- how the end is made

ends : (xs : List ℕ) → xs ≢ [] → take (length xs - 1) xs ++ (get_or xs (length xs - 1) 0 + 1) ∷ [] ≡ end_of xs
ends [] some = absurd (some refl)
ends (b ∷ []) some = refl
ends (b ∷ c ∷ bs) some =
    let step : length (b ∷ c ∷ bs) - 1 ≡ suc (length (c ∷ bs) - 1) = omega arith in
    ap (λ n. take n (b ∷ c ∷ bs) ++ (get_or (b ∷ c ∷ bs) n 0 + 1) ∷ []) step ∙ ap (λ l. b ∷ l) (ends (c ∷ bs) (λ none. absurd (let e = none in cc)))

-- the byte behind a byte of a name is ASCII
next_low : (b : ℕ) → is_ws_byte b ≡ true → b + 1 < 128
next_low b is = grind (arith, nat_tests)

all_low : (xs : List ℕ) (n : ℕ) → list_all is_ws_byte xs ≡ true → get_or xs n 0 + 1 < 128
all_low [] n all = omega arith
all_low (b ∷ xs) zero all = next_low b (and_parts (is_ws_byte b) (list_all is_ws_byte xs) all).0
all_low (b ∷ xs) (suc n) all = all_low xs n (and_parts (is_ws_byte b) (list_all is_ws_byte xs) all).1

module _ (prefix : List ℕ) (fits : IsTrue (is_prefix prefix)) where
  -- the byte behind its last one
  pub last_low : (n : ℕ) → get_or prefix n 0 + 1 < 128
  last_low n = all_low prefix n (and_parts (has_length 0 MAX_PREFIX prefix) (list_all is_ws_byte prefix) fits).1

  -- the parts that the code puts together
  pub made_end : prefix ≢ [] → (text front bytes : List ℕ) (c : ℕ) → text ≡ prefix → front ≡ slice_range text 0 (length text - 1) → bytes ≡ text → c ≡ get_or bytes (length text - 1) 0 + 1 → front ++ c ∷ [] ≡ end_of prefix
  made_end some text front bytes c is front_is bytes_are c_is =
      let whole : length text - 1 - 0 ≡ length text - 1 = omega arith in
      ap₂ (λ l d. l ++ d ∷ []) (front_is ∙ ap (λ n. take n text) whole) (c_is ∙ ap (λ l. get_or l (length text - 1) 0 + 1) bytes_are)
      ∙ ap (λ l. take (length l - 1) l ++ (get_or l (length l - 1) 0 + 1) ∷ []) is ∙ ends prefix some

pub empty_is : (xs : List ℕ) → (length xs == 0) ≡ true → xs ≡ []
empty_is [] e = refl
empty_is (x ∷ xs) e = let no_length : suc (length xs) ≡ 0 = eqb-true (suc (length xs)) 0 e in absurd (omega arith)
