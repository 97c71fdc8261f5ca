-- Where the head of a request ends (RFC 9112, sections 2.1 and 2.2): at the first empty line after the first byte that is neither CR (13) nor LF (10).
use Rattle.std.specs.Prelude.{ℕ, suc, List, [], ◌∷◌, length, Bool, false, ◌&&◌, ◌||◌, ◌==◌, nat_le, nat_lt, if◌then◌else◌, Option, Some, None, option_map, is_some, count_by}
use Rattle.wire.specs.declared.heads.TheConstants.{MAX_HEAD}

-- CR or LF
abbrev pub is_break : ℕ → Bool
is_break b = b == 10 || b == 13

-- LF stands first
abbrev pub has_feed : List ℕ → Bool
has_feed [] = false
has_feed (b ∷ bytes) = b == 10

-- the length of the empty line (LF, or CR LF) that stands first
abbrev pub empty_line : List ℕ → Option ℕ
empty_line [] = None
empty_line (b ∷ bytes) = if b == 10 then Some 1 else (if b == 13 && has_feed bytes then Some 2 else None)

-- how many bytes stand up to the end of the first empty line that follows a line feed
abbrev pub text_len : List ℕ → Option ℕ
text_len [] = None
text_len (b ∷ bytes) = option_map suc (if b == 10 && is_some (empty_line bytes) then empty_line bytes else text_len bytes)

-- the same, where line breaks may stand before the first line
abbrev pub head_len : List ℕ → Option ℕ
head_len [] = None
head_len (b ∷ bytes) = if is_break b then option_map suc (head_len bytes) else text_len (b ∷ bytes)

-- where the head of a string ends: not yet, not within the most bytes of a head, or after so many bytes
pub data HeadEnd : Type 0 where
  Unfinished Long : HeadEnd
  Whole : ℕ → HeadEnd

abbrev pub head_end_by : Option ℕ → ℕ → HeadEnd
head_end_by (Some n) len = if nat_le n MAX_HEAD then Whole n else Long
head_end_by None len = if nat_lt len MAX_HEAD then Unfinished else Long

abbrev pub head_end_of : List ℕ → HeadEnd
head_end_of bytes = head_end_by (head_len bytes) (length bytes)

abbrev pub is_feed : ℕ → Bool
is_feed b = b == 10

-- the line feeds from the first byte that is neither CR nor LF
abbrev pub feeds_of : List ℕ → ℕ
feeds_of [] = 0
feeds_of (b ∷ bytes) = if is_break b then feeds_of bytes else count_by is_feed (b ∷ bytes)
