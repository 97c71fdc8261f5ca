-- Lines, and messages whose length is known.
use Rattle.std.specs.Prelude.{ℕ, List, [], ◌∷◌, Option, Some, None, ◌==◌, nat_le, cond, option_and_then, take, drop, slice_index, suc, position}

-- the first bytes, this many, and everything after the one byte that follows them
abbrev pub parted : ℕ → List ℕ → List ℕ × List ℕ
parted n bytes = (take n bytes, drop (suc n) bytes)

-- the first line, and everything after its line feed (10); none without a line feed, or with more than 4,096 bytes before it
abbrev pub first_line : List ℕ → Option (List ℕ × List ℕ)
first_line bytes = option_and_then (λ n. cond (nat_le n 4096) (Some (parted n bytes)) None) (position (λ b. b == 10) bytes)

-- this many bytes, and everything after the line feed (10) that follows them; none if no line feed follows
abbrev pub message_of : ℕ → List ℕ → Option (List ℕ × List ℕ)
message_of len bytes = cond (slice_index bytes len == 10) (Some (parted len bytes)) None

-- a line, if nothing follows its line feed
abbrev pub alone : List ℕ × List ℕ → Option (List ℕ)
alone (line, []) = Some line
alone (line, byte ∷ rest) = None

-- the one line of the bytes, with or without its line feed
abbrev pub line_or_all : List ℕ → Option (List ℕ × List ℕ) → Option (List ℕ)
line_or_all bytes (Some found) = alone found
line_or_all bytes None = Some bytes

abbrev pub only_line : List ℕ → Option (List ℕ)
only_line bytes = line_or_all bytes (first_line bytes)
