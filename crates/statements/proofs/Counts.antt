-- The tables of the versions of the schema: each version has those of the one before it, and more.
use Rattle.std.proofs.Common.{◌≡◌, ℕ, zero, suc, nat_lt, nat_le, ◌<◌, ◌≤◌, ◌&&◌, Bool, true, List, [], ◌∷◌, ◌++◌, length, take, slice_get, Option, Some, None, is_some, unwrap_or, arith, refl, sym, ap, ◌∙◌, subst}
use Rattle.statements.proofs.Outside.{take-append-drop, AllByRecursion, list_all, and_parts, nat_tests, IsAscending, all-slice_get}
use Rattle.statements.specs.declared.making.TheConstants.{SCHEMA_VERSION}
use Rattle.statements.specs.Tables.{table_counts, is_known, count_in, schema_tables, added_by, our_tables}

module _ {X : Type 0} where
  -- of two in a list that rises, the one behind is the greater
  pub rising : (R : X → X → Type 0) (xs : List X) (n m : ℕ) (a b : X) → slice_get xs n ≡ Some a → slice_get xs m ≡ Some b → n < m → IsAscending R xs → R a b
  rising R [] n m a b at_n at_m low up = absurd (cc)
  rising R (x ∷ xs) zero zero a b at_n at_m low up = absurd (omega arith)
  rising R (x ∷ xs) zero (suc m) a b at_n at_m low up =
      let is : x ≡ a = cc in
      subst (λ y. R y b) is (all-slice_get (R x) xs m b at_m up.0)
  rising R (x ∷ xs) (suc n) zero a b at_n at_m low up = absurd (omega arith)
  rising R (x ∷ xs) (suc n) (suc m) a b at_n at_m low up = rising R xs n m a b at_n at_m (omega arith) up.1

  pub take_front : (n m : ℕ) (xs : List X) → n ≤ m → take n (take m xs) ≡ take n xs
  take_front zero m xs low = refl
  take_front (suc n) zero xs low = absurd (omega (arith, low))
  take_front (suc n) (suc m) [] low = refl
  take_front (suc n) (suc m) (x ∷ xs) low = ap (λ l. x ∷ l) (take_front n m xs (omega arith))

rises : (xs : List ℕ) (m n : ℕ) → IsAscending (λ (a b : ℕ). a < b) xs → m < n → is_some (slice_get xs n) ≡ true → unwrap_or (slice_get xs m) 0 < unwrap_or (slice_get xs n) 0
rises [] m n up low is = absurd (cc)
rises (x ∷ xs) zero zero up low is = absurd (omega (arith, low))
rises (x ∷ xs) zero (suc n) up low is = by_item (slice_get xs n) refl is
  where
    by_item : (o : Option ℕ) → slice_get xs n ≡ o → is_some o ≡ true → x < unwrap_or o 0
    by_item None e some = absurd (cc)
    by_item (Some b) e some = all-slice_get (λ (y : ℕ). x < y) xs n b e up.0
rises (x ∷ xs) (suc m) zero up low is = absurd (omega (arith, low))
rises (x ∷ xs) (suc m) (suc n) up low is = rises xs m n up.1 (omega arith) is

-- a list that rises, as it is computed
abbrev are_rising : List ℕ → Bool
are_rising [] = true
are_rising (x ∷ xs) = list_all (λ y. nat_lt x y) xs && are_rising xs

all_above : (x : ℕ) (xs : List ℕ) → list_all (λ y. nat_lt x y) xs ≡ true → AllByRecursion (λ y. x < y) xs
all_above x [] e = tt
all_above x (y ∷ xs) e = let parts = and_parts (nat_lt x y) (list_all (λ z. nat_lt x z) xs) e in let first = parts.0 in (grind (arith, nat_tests), all_above x xs parts.1)

rising_list : (xs : List ℕ) → are_rising xs ≡ true → IsAscending (λ (a b : ℕ). a < b) xs
rising_list [] e = tt
rising_list (x ∷ xs) e = let parts = and_parts (list_all (λ y. nat_lt x y) xs) (are_rising xs) e in (all_above x xs parts.0, rising_list xs parts.1)

counts_rise : IsAscending (λ (a b : ℕ). a < b) table_counts
counts_rise = rising_list table_counts refl

pub more_tables : (m n : ℕ) → m < n → is_known n ≡ true → count_in m < count_in n
more_tables m zero low is = absurd (omega (arith, low))
more_tables m (suc n) low is = rises table_counts m (suc n) counts_rise low is

-- the tables of a version are those of the one before, and those that it added
pub version_grows : (n : ℕ) → is_known (suc n) ≡ true → schema_tables n ++ added_by (suc n) ≡ schema_tables (suc n)
version_grows n is =
    let more = more_tables n (suc n) (omega arith) is in
    ap (λ l. l ++ added_by (suc n)) (sym (take_front (count_in n) (count_in (suc n)) our_tables (omega (arith, more)))) ∙ take-append-drop (count_in n) (schema_tables (suc n))

within : (xs : List ℕ) (n : ℕ) → n < length xs → is_some (slice_get xs n) ≡ true
within [] n low = absurd (omega (arith, low))
within (x ∷ xs) zero low = refl
within (x ∷ xs) (suc n) low = within xs n (omega arith)

pub next_version : (n : ℕ) → suc n < length table_counts → is_known (suc n) ≡ true
next_version n low = within table_counts (suc n) low

-- a version that is known is no later than the newest, and has no more tables than there are
known_below : (xs : List ℕ) (n : ℕ) → is_some (slice_get xs n) ≡ true → n < length xs
known_below [] n is = absurd (cc)
known_below (x ∷ xs) zero is = omega arith
known_below (x ∷ xs) (suc n) is = let low = known_below xs n is in omega (arith, low)

pub known_within : (n : ℕ) → is_known n ≡ true → (1 ≤ n) × (n ≤ SCHEMA_VERSION)
known_within zero is = absurd (cc)
known_within (suc n) is = let low = known_below table_counts (suc n) is in (omega arith, omega (arith, low))

all_within : (xs : List ℕ) (n most : ℕ) → list_all (λ k. nat_le k most) xs ≡ true → unwrap_or (slice_get xs n) 0 ≤ most
all_within [] n most e = omega arith
all_within (x ∷ xs) zero most e = let first = (and_parts (nat_le x most) (list_all (λ k. nat_le k most) xs) e).0 in grind (arith, nat_tests)
all_within (x ∷ xs) (suc n) most e = all_within xs n most (and_parts (nat_le x most) (list_all (λ k. nat_le k most) xs) e).1

pub most_tables : (n : ℕ) → count_in n ≤ length our_tables
most_tables n = all_within table_counts n (length our_tables) refl

-- each version from the second on has the table edition
pub later_has_edition : (n : ℕ) → is_known (suc (suc n)) ≡ true → 9 < count_in (suc (suc n))
later_has_edition zero is = omega arith
later_has_edition (suc n) is = let more = more_tables 2 (suc (suc (suc n))) (omega arith) is in omega (arith, more)
