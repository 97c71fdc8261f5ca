-- Whole numbers as requests and commands write them: digits without a leading zero.
use Rattle.std.specs.Prelude.{ℕ, List, [], ◌∷◌, length, Bool, true, not, ◌&&◌, ◌||◌, ◌==◌, ◌^◌, nat_le, nat_lt, slice_index, Option, Some, None, cond, option_and_then}
use Rattle.std.specs.Char.{digit_value}
use Rattle.std.specs.Str.Parse.{digits_value}
use Rattle.basis.specs.declared.numbers.TheConstants.{MAX_NUMBER}

-- decimal digits alone
abbrev pub all_digits : List ℕ → Bool
all_digits [] = true
all_digits (c ∷ cs) = nat_lt (digit_value c) 10 && all_digits cs

-- one digit or more, the first a zero (48) only where it stands alone
abbrev pub is_plain : List ℕ → Bool
is_plain text = nat_lt 0 (length text) && all_digits text && (not (slice_index text 0 == 48) || length text == 1)

-- the number that a text writes, where it is below 2 ^ 64
abbrev pub whole_of : List ℕ → Option ℕ
whole_of text = cond (is_plain text && nat_lt (digits_value 10 text) (2 ^ 64)) (Some (digits_value 10 text)) None

-- a number between two bounds, or none
abbrev pub within : ℕ → ℕ → ℕ → Option ℕ
within least most n = cond (nat_le least n && nat_le n most) (Some n) None

-- the number of a version or a run that a text writes
abbrev pub number_of : List ℕ → Option ℕ
number_of text = option_and_then (within 1 MAX_NUMBER) (whole_of text)
