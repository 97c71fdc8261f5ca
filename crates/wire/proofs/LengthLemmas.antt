-- The number that a length's digits write, one digit after another and never above a cap.
use Rattle.std.proofs.Common.{◌≡◌, ℕ, ◌+◌, ◌*◌, ◌-◌, ◌<◌, List, [], ◌∷◌, length, take, get_or, true, min, refl, sym, ap, ◌∙◌, arith, add-one}
use Rattle.std.proofs.Math.Seq.{take-suc}
use Rattle.std.proofs.lemmas.List.Folds.{list_all-append}
use Rattle.std.proofs.lemmas.Int.Digits.{digits_value_more}
use Rattle.std.proofs.lemmas.Str.{digit_value_digit}
use Rattle.std.specs.List.{list_all}
use Rattle.std.specs.Char.{is_ascii_digit, digit_value}
use Rattle.std.specs.Int.{IsInRange}
use Rattle.std.specs.Str.Parse.{digits_value}

pub digits_more : (text : List ℕ) (i : ℕ) → i < length text → list_all is_ascii_digit (take i text) ≡ true
    → is_ascii_digit (get_or text i 0) ≡ true → list_all is_ascii_digit (take (i + 1) text) ≡ true
digits_more text i h e d = rw (add-one, take-suc text i 0 h, list_all-append is_ascii_digit (take i text) (get_or text i 0 ∷ []), e, d) refl

capped : (cap v n d : ℕ) → n ≡ min v cap → min cap (n * 10 + d) ≡ min (v * 10 + d) cap
capped cap v n d e = omega arith

pub value_more : (cap : ℕ) (text : List ℕ) (i n : ℕ) → i < length text → n ≡ min (digits_value 10 (take i text)) cap
    → IsInRange 48 57 (get_or text i 0) → min cap (n * 10 + (get_or text i 0 - 48)) ≡ min (digits_value 10 (take (i + 1) text)) cap
value_more cap text i n h e range =
    let digit : get_or text i 0 - 48 ≡ digit_value (get_or text i 0) = omega (arith, digit_value_digit (get_or text i 0) range) in
    ap (λ d. min cap (n * 10 + d)) digit ∙ capped cap (digits_value 10 (take i text)) n (digit_value (get_or text i 0)) e
    ∙ ap (λ z. min z cap) (sym (digits_value_more 10 text i h))
