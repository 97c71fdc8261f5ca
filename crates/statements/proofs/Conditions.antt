-- Terms of WHERE at typed values.
use Rattle.statements.proofs.Outside.{◌≡◌, ℕ, pos, Bool, true, false, not, ◌&&◌, if◌then◌else◌, List, Option, Some, None, refl, sym, ap, ◌∙◌, ◌≤◌, ◌+◌, ◌-ℤ◌, int_cmp, int_eq, int_lt, eqb, arith, Ordering, Less, Equal, Greater, is_eq, nat_lt, bytes_eq, is_eq-slice_cmp, ints, nat_tests, and_assoc, Binary, Null, Int, Real, Text, Blob, Value, value_cmp, value_cmp-Int, value_cmp_total, ordering_reverse, Eq, Lt, Gt, Compare, is_true, from_truth, binary, or_null, RunStatus, Pending, Planning, Planned, Applying, Applied, PlannedAndFinished, Errored, Discarded, Canceled, difference_fits, at_texts, at_blobs, at_ints, then_term, last_term}
use Rattle.statements.specs.Rows.{flag, status_code}
use Rattle.basis.specs.Runs.{is_open}
use Rattle.statements.specs.Finds.{is_pending_of, is_key_of, is_one_less}
use Rattle.statements.specs.Listings.{is_behind}

pub same_text : (a b : List ℕ) → is_true (binary (Compare Eq Binary) (Text a) (Text b)) ≡ bytes_eq a b
same_text a b = at_texts _ Eq a b ∙ is_eq-slice_cmp a b

pub same_blob : (a b : List ℕ) → is_true (binary (Compare Eq Binary) (Blob a) (Blob b)) ≡ bytes_eq a b
same_blob a b = at_blobs _ Eq a b ∙ is_eq-slice_cmp a b

pub same_int : (a b : ℕ) → int_eq (pos a) (pos b) ≡ eqb a b
same_int a b = grind (arith, ints, nat_tests)

pub same_number : (a b : ℕ) → is_true (binary (Compare Eq Binary) (Int (pos a)) (Int (pos b))) ≡ eqb a b
same_number a b = at_ints _ Eq (pos a) (pos b) ∙ same_int a b

-- WHERE of two and of three texts
pub two_texts : (a b c d : List ℕ) → (is_true (binary (Compare Eq Binary) (Text a) (Text b)) && (is_true (binary (Compare Eq Binary) (Text c) (Text d)) && true)) ≡ (bytes_eq a b && bytes_eq c d)
two_texts a b c d = then_term (same_text a b) (last_term (same_text c d))

-- and of a number, a bound, or a role behind two texts
pub two_texts_number : (a b c d : List ℕ) (m n : ℕ)
    → (is_true (binary (Compare Eq Binary) (Text a) (Text b)) && (is_true (binary (Compare Eq Binary) (Text c) (Text d)) && (is_true (binary (Compare Eq Binary) (Int (pos m)) (Int (pos n))) && true)))
    ≡ (bytes_eq a b && (bytes_eq c d && eqb m n))
two_texts_number a b c d m n = then_term (same_text a b) (then_term (same_text c d) (last_term (same_number m n)))

equal_is : (o : Ordering) → is_eq o ≡ true → o ≡ Equal
equal_is Less h = absurd (cc)
equal_is Equal h = refl
equal_is Greater h = absurd (cc)

reported : (b : Bool) → is_true (from_truth (Some b)) ≡ b
reported true = refl
reported false = refl

equals : (m : ℕ) (v : Value) → is_true (binary (Compare Eq Binary) (Int (pos m)) v) ≡ true → value_cmp (Int (pos m)) v ≡ Equal
unfolding binary
equals m Null h = absurd (cc)
equals m (Int n) h = equal_is (value_cmp (Int (pos m)) (Int n)) (sym (reported _) ∙ h)
equals m (Real x) h = equal_is (value_cmp (Int (pos m)) (Real x)) (sym (reported _) ∙ h)
equals m (Text t) h = equal_is (value_cmp (Int (pos m)) (Text t)) (sym (reported _) ∙ h)
equals m (Blob b) h = equal_is (value_cmp (Int (pos m)) (Blob b)) (sym (reported _) ∙ h)

one_int : (m n : ℕ) → int_cmp (pos m) (pos n) ≡ Equal → m ≡ n
one_int m n h = grind (arith, ints)

-- no more than one number equals a value
pub one_number : (v : Value) (m n : ℕ) → is_true (binary (Compare Eq Binary) (Int (pos m)) v) ≡ true → is_true (binary (Compare Eq Binary) (Int (pos n)) v) ≡ true → m ≡ n
one_number v m n one two =
    one_int m n (sym (value_cmp-Int (pos m) (pos n)) ∙ value_cmp_total.congr (Int (pos m)) v (Int (pos n)) (equals m v one)
    ∙ value_cmp_total.antisymm v (Int (pos n)) ∙ ap ordering_reverse (equals n v two))

-- SQL's numbers are long enough for one less than a number of versions
pub one_less_is : (m n : ℕ) → n ≤ 1_000_000_001 → is_one_less m n ≡ eqb (m + 1) n
one_less_is m n low =
    ap (λ (v : Value). is_true (binary (Compare Eq Binary) (Int (pos m)) v)) (difference_fits (pos n) (pos 1) (grind (arith, ints)))
    ∙ at_ints _ Eq (pos m) (pos n -ℤ pos 1) ∙ grind (arith, ints, nat_tests)

-- and of a number that is one less than another behind two texts
pub two_texts_one_less : (a b c d : List ℕ) (m n : ℕ)
    → (is_true (binary (Compare Eq Binary) (Text a) (Text b)) && (is_true (binary (Compare Eq Binary) (Text c) (Text d)) && (is_one_less m n && true)))
    ≡ (bytes_eq a b && (bytes_eq c d && is_one_less m n))
two_texts_one_less a b c d m n = then_term (same_text a b) (then_term (same_text c d) (last_term {a = is_one_less m n} refl))

pub below_is : (a b : ℕ) → int_lt (pos a) (pos b) ≡ nat_lt a b
below_is a b = grind (arith, ints, nat_tests)

pub two_texts_below : (a b c d : List ℕ) (m n : ℕ)
    → (is_true (binary (Compare Eq Binary) (Text a) (Text b)) && (is_true (binary (Compare Eq Binary) (Text c) (Text d)) && (is_true (binary (Compare Lt Binary) (Int (pos m)) (Int (pos n))) && true)))
    ≡ (bytes_eq a b && (bytes_eq c d && nat_lt m n))
two_texts_below a b c d m n = then_term (same_text a b) (then_term (same_text c d) (last_term (at_ints _ Lt (pos m) (pos n) ∙ below_is m n)))

pub two_texts_above : (a b c d : List ℕ) (m n : ℕ)
    → (is_true (binary (Compare Eq Binary) (Text a) (Text b)) && (is_true (binary (Compare Eq Binary) (Text c) (Text d)) && (is_true (binary (Compare Gt Binary) (Int (pos m)) (Int (pos n))) && true)))
    ≡ ((bytes_eq a b && bytes_eq c d) && nat_lt n m)
two_texts_above a b c d m n =
    then_term (same_text a b) (then_term (same_text c d) (last_term (at_ints _ Gt (pos m) (pos n) ∙ below_is n m))) ∙ sym (and_assoc (bytes_eq a b) (bytes_eq c d) (nat_lt n m))

pub text_after : (a b c d : List ℕ) → (is_true (binary (Compare Eq Binary) (Text a) (Text b)) && (is_true (binary (Compare Gt Binary) (Text c) (Text d)) && true)) ≡ (bytes_eq a b && is_behind d c)
text_after a b c d = then_term (same_text a b) (last_term (at_texts _ Gt c d))

pub text_blob : (a b c d : List ℕ) → (is_true (binary (Compare Eq Binary) (Text a) (Text b)) && (is_true (binary (Compare Eq Binary) (Blob c) (Blob d)) && true)) ≡ (bytes_eq a b && bytes_eq c d)
text_blob a b c d = then_term (same_text a b) (last_term (same_blob c d))

pub one_text : (a b : List ℕ) → (is_true (binary (Compare Eq Binary) (Text a) (Text b)) && true) ≡ bytes_eq a b
one_text a b = last_term (same_text a b)

pending_is : (s : RunStatus) → eqb (status_code s) 0 ≡ is_pending_of s
pending_is Pending = refl
pending_is Planning = refl
pending_is Planned = refl
pending_is Applying = refl
pending_is Applied = refl
pending_is PlannedAndFinished = refl
pending_is Errored = refl
pending_is Discarded = refl
pending_is Canceled = refl

unset_is : (b : Bool) → int_eq (if b then pos 1 else pos 0) (pos 0) ≡ not b
unset_is true = refl
unset_is false = refl

pub waits : (a b c d : List ℕ) (s : RunStatus) (planned : Bool)
    → (is_true (binary (Compare Eq Binary) (Text a) (Text b)) && (is_true (binary (Compare Eq Binary) (Text c) (Text d))
    && (is_true (binary (Compare Eq Binary) (Int (pos (status_code s))) (Int (pos 0))) && (is_true (binary (Compare Eq Binary) (flag planned) (Int (pos 0))) && true))))
    ≡ (bytes_eq a b && (bytes_eq c d && (is_pending_of s && not planned)))
waits a b c d s planned =
    then_term (same_text a b) (then_term (same_text c d) (then_term (same_number (status_code s) 0 ∙ pending_is s) (last_term (at_ints _ Eq (if planned then pos 1 else pos 0) (pos 0) ∙ unset_is planned))))

-- what is compared with NULL is never true
key_is : (key : List ℕ) (o : Option (List ℕ)) → is_true (binary (Compare Eq Binary) (or_null Text o) (Text key)) ≡ is_key_of key o
unfolding binary
key_is key None = refl
key_is key (Some k) = same_text k key

pub two_texts_key : (a b c d key : List ℕ) (o : Option (List ℕ))
    → (is_true (binary (Compare Eq Binary) (Text a) (Text b)) && (is_true (binary (Compare Eq Binary) (Text c) (Text d)) && (is_true (binary (Compare Eq Binary) (or_null Text o) (Text key)) && true)))
    ≡ (bytes_eq a b && (bytes_eq c d && is_key_of key o))
two_texts_key a b c d key o = then_term (same_text a b) (then_term (same_text c d) (last_term (key_is key o)))

open_is : (s : RunStatus) → nat_lt (status_code s) 4 ≡ is_open s
open_is Pending = refl
open_is Planning = refl
open_is Planned = refl
open_is Applying = refl
open_is Applied = refl
open_is PlannedAndFinished = refl
open_is Errored = refl
open_is Discarded = refl
open_is Canceled = refl

pub two_texts_open : (a b c d : List ℕ) (s : RunStatus)
    → (is_true (binary (Compare Eq Binary) (Text a) (Text b)) && (is_true (binary (Compare Eq Binary) (Text c) (Text d)) && (is_true (binary (Compare Lt Binary) (Int (pos (status_code s))) (Int (pos 4))) && true)))
    ≡ (bytes_eq a b && (bytes_eq c d && is_open s))
two_texts_open a b c d s = two_texts_below a b c d (status_code s) 4 ∙ ap (λ o. bytes_eq a b && (bytes_eq c d && o)) (open_is s)
