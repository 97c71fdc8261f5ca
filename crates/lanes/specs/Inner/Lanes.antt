-- Four texts side by side: each word of a state is a vector with a lane for each text.
use Rattle.std.specs.Prelude.{ℕ, ◌+◌, ◌*◌, ◌/◌, List, [], ◌∷◌, drop, length, map, slice_index, slice_index_or, take}
use Rattle.sha2.specs.Sha256.{padded_message}

-- lane j of vector k
abbrev pub lane_at : List (List ℕ) → ℕ → ℕ → ℕ
lane_at x k j = slice_index (slice_index_or x k []) j

-- the state of text j
abbrev pub state_of : ℕ → List (List ℕ) → List ℕ
state_of j x =
    lane_at x 0 j ∷ lane_at x 1 j ∷ lane_at x 2 j ∷ lane_at x 3 j
    ∷ lane_at x 4 j ∷ lane_at x 5 j ∷ lane_at x 6 j ∷ lane_at x 7 j ∷ []

-- the words of text j
abbrev pub words_of : ℕ → List (List ℕ) → List ℕ
words_of j w = map (λ v. slice_index v j) w

-- text j of four
abbrev pub one_of : ℕ → List ℕ → List ℕ → List ℕ → List ℕ → List ℕ
one_of j a b c d = slice_index_or (a ∷ b ∷ c ∷ d ∷ []) j []

-- how many blocks a text has with its padding
abbrev pub count_of : List ℕ → ℕ
count_of m = (length m + 72) / 64

-- block n of a text with its padding
abbrev pub block_of : List ℕ → ℕ → List ℕ
block_of m n = take 64 (drop (n * 64) (padded_message m))
