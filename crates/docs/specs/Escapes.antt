-- Text that is safe on a terminal: characters that act there are escaped, as JSON permits in a string (RFC 8259, section 7).
use Rattle.std.specs.Prelude.{◌≡◌, ◌≢◌, ℕ, zero, suc, ◌+◌, ◌*◌, ◌/◌, ◌%◌, List, [], ◌∷◌, ◌++◌, get_or, Bool, true, cond, ◌||◌, ◌==◌}
use Rattle.std.specs.Char.{digit_char, encode_utf8}
use Rattle.std.specs.Int.{is_in_range}

-- the characters that act on a terminal, or on the lines and the order of what it shows: DEL and the controls C1, the marks and
-- controls of bidirectional text (U+061C, U+200E and U+200F, U+202A to U+202E, U+2066 to U+2069), and the separators of lines and
-- paragraphs (U+2028, U+2029)
abbrev pub acts : ℕ → Bool
acts c = is_in_range 0x7f 0x9f c || (c == 0x61c) || is_in_range 0x200e 0x200f c || is_in_range 0x2028 0x202e c || is_in_range 0x2066 0x2069 c

-- the UTF-8 of such a character stands nowhere in the text
abbrev pub NothingActs : List ℕ → Type 0
NothingActs text = (c : ℕ) (before after : List ℕ) → acts c ≡ true → text ≢ before ++ (encode_utf8 c ++ after)

-- a byte that stands in a character of more bytes, behind the first one
abbrev pub is_tail : ℕ → Bool
is_tail b = is_in_range 0x80 0xbf b

-- the character whose UTF-8 these three bytes begin with, if it is DEL, has two bytes, or has three of which the first one is 0xe2; 0 where
-- there is none. All that act are among these
unfoldable pub code_of : ℕ → ℕ → ℕ → ℕ
code_of a b c =
    cond (a == 0x7f) 0x7f (
    cond (is_in_range 0xc2 0xdf a) (cond (is_tail b) (a % 32 * 64 + b % 64) 0) (
    cond (a == 0xe2) (cond (is_tail b) (cond (is_tail c) (0x2000 + b % 64 * 64 + c % 64) 0) 0) 0))

-- of the characters that act, the one whose UTF-8 these three bytes begin with; 0 where there is none
unfoldable pub acting : ℕ → ℕ → ℕ → ℕ
acting a b c = let n = code_of a b c in cond (acts n) n 0

-- how many bytes of a character stand behind its first one
abbrev pub behind_first : ℕ → ℕ
behind_first a = cond (a == 0x7f) 0 (cond (a == 0xe2) 2 1)

-- `\u` and four digits
unfoldable pub unicode_escape : ℕ → List ℕ
unicode_escape c = 92 ∷ 117 ∷ digit_char (c / 4096 % 16) ∷ digit_char (c / 256 % 16) ∷ digit_char (c / 16 % 16) ∷ digit_char (c % 16) ∷ []

-- a text behind so many bytes that belong to a character which is escaped already
unfoldable pub escaped_from : ℕ → List ℕ → List ℕ
escaped_from skip [] = []
escaped_from zero (a ∷ rest) =
    let c = acting a (get_or rest 0 0) (get_or rest 1 0) in
    cond (c == 0) (a ∷ escaped_from 0 rest) (unicode_escape c ++ escaped_from (behind_first a) rest)
escaped_from (suc skip) (a ∷ rest) = escaped_from skip rest

-- the text with each character that acts escaped, and all else as it is
abbrev pub escaped : List ℕ → List ℕ
escaped text = escaped_from 0 text
