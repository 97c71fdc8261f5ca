-- Sets of keys.
use Rattle.checks.proofs.Outside.{◌≡◌, ℕ, Bool, true, false, not, ◌&&◌, ◌||◌, ◌==◌, List, [], ◌∷◌, Ordering, Less, Equal, Greater, nat_cmp, is_eq, arith, refl, sym, ap, ap₂, ◌∙◌, ordering_then, match_ordering, bytes_eq, list_any, insert_key, and_parts, eqb-true, nat_eq_equiv, nat_list_eq_equiv, is_eq-slice_cmp, or-false, and_comm, equal_bytes}
use Rattle.std.specs.Cmp.Lexicographic.{slice_cmp}
use Rattle.std.proofs.lemmas.Bool.Decides.{nat_tests}
use Rattle.checks.specs.declared.keys.RowKey.{RowKey}
use Rattle.checks.specs.Inner.Firsts.{key_cmp}
use Rattle.checks.specs.Inner.Keys.{is_key}
use Rattle.checks.proofs.RowLists.{any_same}

or_turned : (a b : Bool) → (a || b) ≡ (b || a)
or_turned true b = elim b as (λ b. true ≡ (b || true)) [ true ↦ refl | false ↦ refl ]
or_turned false b = sym (or-false b)

or_grouped : (a b c : Bool) → (a || (b || c)) ≡ ((a || b) || c)
or_grouped true b c = refl
or_grouped false b c = refl

or_again : (a b c : Bool) → a ≡ c → (a || b) ≡ ((a || b) || c)
or_again true b c e = refl
or_again false b c e = sym (or-false b) ∙ ap (λ x. b || x) e

module _ {K : Type 0} (cmp : K → K → Ordering) (p : K → Bool) (k : K) (same : (x : K) → cmp k x ≡ Equal → p x ≡ p k) where
  pub any_inserted : (ks : List K) → list_any p (insert_key cmp ks k) ≡ (list_any p ks || p k)
  any_inserted [] = or-false (p k)
  any_inserted (x ∷ xs) = go (cmp k x) refl (any_inserted xs)
    where
      go : (o : Ordering) → cmp k x ≡ o → list_any p (insert_key cmp xs k) ≡ (list_any p xs || p k)
          → list_any p (match_ordering o (k ∷ x ∷ xs) (x ∷ xs) (x ∷ insert_key cmp xs k)) ≡ ((p x || list_any p xs) || p k)
      go Less e more = or_turned (p k) (p x || list_any p xs)
      go Equal e more = or_again (p x) (list_any p xs) (p k) (same x e)
      go Greater e more = ap (λ b. p x || b) more ∙ or_grouped (p x) (list_any p xs) (p k)

pub bytes_turned : (x y : List ℕ) → bytes_eq x y ≡ bytes_eq y x
bytes_turned = nat_list_eq_equiv.symm

eq_then : (o p : Ordering) → is_eq (ordering_then o p) ≡ (is_eq o && is_eq p)
eq_then Less p = refl
eq_then Equal p = refl
eq_then Greater p = refl

eq_numbers : (x y : ℕ) → is_eq (nat_cmp x y) ≡ (y == x)
eq_numbers x y = grind (arith, nat_tests)

eq_bytes : (x y : List ℕ) → is_eq (slice_cmp nat_cmp x y) ≡ bytes_eq y x
eq_bytes x y = is_eq-slice_cmp x y ∙ nat_list_eq_equiv.symm x y

pub key_found : (k x : RowKey) → is_eq (key_cmp k x) ≡ is_key k.first.now k.second.now k.number k.place x
key_found k x =
    eq_then (nat_cmp k.place x.place) _ ∙ ap₂ ◌&&◌ (eq_numbers k.place x.place)
    (eq_then (nat_cmp k.number x.number) _ ∙ ap₂ ◌&&◌ (eq_numbers k.number x.number)
    (eq_then (slice_cmp nat_cmp k.first.now x.first.now) _ ∙ ap₂ ◌&&◌ (eq_bytes k.first.now x.first.now) (eq_bytes k.second.now x.second.now)))

same_columns : (k x : RowKey) → key_cmp k x ≡ Equal → (first second : List ℕ) (number place : ℕ) → is_key first second number place x ≡ is_key first second number place k
same_columns k x e first second number place =
    let all = and_parts _ _ (sym (key_found k x) ∙ ap is_eq e) in
    let rest = and_parts _ _ all.1 in
    let texts = and_parts _ _ rest.1 in
    let of_place = eqb-true x.place k.place all.0 in
    let of_number = eqb-true x.number k.number rest.0 in
    let of_first = equal_bytes x.first.now k.first.now texts.0 in
    let of_second = equal_bytes x.second.now k.second.now texts.1 in
    λ i. of_place i == place && (of_number i == number && (bytes_eq (of_first i) first && bytes_eq (of_second i) second))

pub key_added : (first second : List ℕ) (number place : ℕ) (k : RowKey) (ks : List RowKey)
    → list_any (is_key first second number place) (insert_key key_cmp ks k) ≡ (list_any (is_key first second number place) ks || is_key first second number place k)
key_added first second number place k = any_inserted key_cmp (is_key first second number place) k (λ x e. same_columns k x e first second number place)

pub key_among : (k : RowKey) (ks : List RowKey) → list_any (λ x. is_eq (key_cmp k x)) ks ≡ list_any (is_key k.first.now k.second.now k.number k.place) ks
key_among k ks = any_same _ _ (key_found k) ks

pub number_turned : (x y : ℕ) → (x == y) ≡ (y == x)
number_turned = nat_eq_equiv.symm

all_fail : (a b : Bool) → false ≡ (a && (b && false))
all_fail true b = elim b as (λ b. false ≡ (b && false)) [ true ↦ refl | false ↦ refl ]
all_fail false b = refl

pub regrouped : (place number first second : Bool) → (place && (number && (first && second))) ≡ (first && (second && (number && place)))
regrouped true true first second = ap (λ b. first && b) (and_comm true second)
regrouped true false first second = all_fail first second
regrouped false true first second = all_fail first second
regrouped false false first second = all_fail first second

-- what a set was asked, by the texts of a row
pub reported_by : (reported : Bool) (has : List ℕ → List ℕ → Bool) (a b first second : List ℕ) (known : Bool) → reported ≡ has a b → a ≡ first → b ≡ second → has first second ≡ known → reported ≡ known
reported_by reported has a b first second known e p q h = e ∙ ap₂ has p q ∙ h

pub fresh_by : (fresh : Bool) (has : List ℕ → List ℕ → Bool) (a b first second : List ℕ) (known : Bool) → fresh ≡ not (has a b) → a ≡ first → b ≡ second → has first second ≡ known → fresh ≡ not known
fresh_by fresh has a b first second known e p q h = e ∙ ap not (ap₂ has p q ∙ h)
