-- A text that begins plainly and that `parse` reads is a plain number, and the other way round.
use Rattle.std.proofs.Common.{◌≡◌, ℕ, ◌<◌, ◌^◌, List, [], ◌∷◌, length, Bool, true, false, not, ◌&&◌, ◌==◌, nat_lt, slice_index, cond, Some, None, Result, Ok, Err, refl, sym, ap, subst, drop}
use Rattle.std.specs.Result.{result_ok, OkIff}
use Rattle.std.specs.Char.{digit_value}
use Rattle.std.specs.Str.Parse.{AllDigits, IsNumeral, digits_value, without_leading_plus, ParsesUnsigned}
use Rattle.std.proofs.lemmas.Bool.{ltb-true, lt-ltb, and_parts, and_from}
use Rattle.basis.specs.Numbers.{all_digits, is_plain, whole_of}
use Rattle.basis.specs.Inner.Numbers.{begins_plainly}

all_digits-from : (text : List ℕ) → AllDigits 10 text → all_digits text ≡ true
all_digits-from [] h = refl
all_digits-from (c ∷ cs) h = and_from (nat_lt (digit_value c) 10) (all_digits cs) (lt-ltb _ _ h.0) (all_digits-from cs h.1)

all_digits-to : (text : List ℕ) → all_digits text ≡ true → AllDigits 10 text
all_digits-to [] h = tt
all_digits-to (c ∷ cs) h = (ltb-true _ _ (and_parts (nat_lt (digit_value c) 10) (all_digits cs) h).0, all_digits-to cs (and_parts (nat_lt (digit_value c) 10) (all_digits cs) h).1)

-- no plus is there to be left out
no_plus : (text : List ℕ) → not (slice_index text 0 == 43) ≡ true → without_leading_plus text ≡ text
no_plus text h =
    let turned : (b : Bool) → not b ≡ true → drop (cond b 1 0) text ≡ text =
    elim [ true ↦ λ e. cc | false ↦ λ e. refl ] in
    turned (slice_index text 0 == 43) h

-- the tests of a plain text, one by one
plain_from : (text : List ℕ) → begins_plainly text ≡ true → IsNumeral 10 text → is_plain text ≡ true
plain_from text h numeral =
    and_from (nat_lt 0 (length text) && all_digits text) _
    (and_from (nat_lt 0 (length text)) (all_digits text) (lt-ltb _ _ numeral.0) (all_digits-from text numeral.1))
    (and_parts (not (slice_index text 0 == 43)) _ h).1

plain_to : (text : List ℕ) → is_plain text ≡ true → IsNumeral 10 text
plain_to text h =
    let parts : (nat_lt 0 (length text) && all_digits text) ≡ true = (and_parts (nat_lt 0 (length text) && all_digits text) _ h).0 in
    (ltb-true _ _ (and_parts (nat_lt 0 (length text)) (all_digits text) parts).0, all_digits-to text (and_parts (nat_lt 0 (length text)) (all_digits text) parts).1)

-- the last test decides
chosen_none : (b : Bool) (n : ℕ) → (b ≡ true → Unit {0} → Some n ≡ None) → cond b (Some n) None ≡ None
chosen_none true n h = h refl tt
chosen_none false n h = refl

refused : (text : List ℕ) → (IsNumeral 10 text × (digits_value 10 text < 2 ^ 64) → Some (digits_value 10 text) ≡ None) → whole_of text ≡ None
refused text h = chosen_none (is_plain text && nat_lt (digits_value 10 text) (2 ^ 64)) (digits_value 10 text)
    (λ e _. h (plain_to text (and_parts (is_plain text) _ e).0, ltb-true _ _ (and_parts (is_plain text) (nat_lt (digits_value 10 text) (2 ^ 64)) e).1))

pub whole_parsed : {E : Type 0} (text : List ℕ) (r : Result ℕ E) → begins_plainly text ≡ true → ParsesUnsigned 64 10 text r → result_ok r ≡ whole_of text
whole_parsed {E} text r plain parsed =
    let same : without_leading_plus text ≡ text = no_plus text (and_parts (not (slice_index text 0 == 43)) _ plain).0 in
    let P : List ℕ → Type 0 = λ ds. OkIff r (IsNumeral 10 ds × (digits_value 10 ds < 2 ^ 64)) (digits_value 10 ds) in
    parsed_by text plain r (subst P same parsed)
  where
    parsed_by : (text : List ℕ) → begins_plainly text ≡ true → (r : Result ℕ E) → OkIff r (IsNumeral 10 text × (digits_value 10 text < 2 ^ 64)) (digits_value 10 text) → result_ok r ≡ whole_of text
    parsed_by text plain (Ok n) h = rw (and_from (is_plain text) (nat_lt (digits_value 10 text) (2 ^ 64)) (plain_from text plain h.0.0) (lt-ltb _ _ h.0.1)) (ap Some h.1)
    parsed_by text plain (Err e) h = sym (refused text (λ p. absurd (h p)))
