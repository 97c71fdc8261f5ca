-- What the four lanes of a vector hold.
use Rattle.std.proofs.Common.{◌≡◌, ℕ, zero, suc, ◌<◌, ◌+◌, ◌-◌, ◌*◌, ◌/◌, ◌%◌, ◌^◌, List, [], ◌∷◌, length, slice_index, slice_index_or, bit_or, arith, refl, subst}
use Rattle.std.specs.Int.{w32, rotate_right}
use Rattle.std.specs.Simd.Lanes.{zip2}
use Rattle.std.proofs.Math.ListN.{get_or-map}
use Rattle.lanes.specs.Inner.Lanes.{lane_at, state_of, words_of}

-- what holds of each of the four lanes
pub below_four : (P : ℕ → Type 0) → P 0 → P 1 → P 2 → P 3 → (j : ℕ) → j < 4 → P j
below_four P p0 p1 p2 p3 zero h = p0
below_four P p0 p1 p2 p3 (suc zero) h = p1
below_four P p0 p1 p2 p3 (suc (suc zero)) h = p2
below_four P p0 p1 p2 p3 (suc (suc (suc zero))) h = p3
below_four P p0 p1 p2 p3 (suc (suc (suc (suc n)))) h = absurd (omega arith)

below_two : (P : ℕ → Type 0) → P 0 → P 1 → (j : ℕ) → j < 2 → P j
below_two P p0 p1 zero h = p0
below_two P p0 p1 (suc zero) h = p1
below_two P p0 p1 (suc (suc n)) h = absurd (omega arith)

-- what holds of each of the eight words
below_eight : (P : ℕ → Type 0) → P 0 → P 1 → P 2 → P 3 → P 4 → P 5 → P 6 → P 7 → (k : ℕ) → k < 8 → P k
below_eight P a0 a1 a2 a3 b0 b1 b2 b3 k h =
    let place : 4 * (k / 4) + k % 4 ≡ k = omega arith in
    subst P place (below_two (λ row. (col : ℕ) → col < 4 → P (4 * row + col))
    (below_four _ a0 a1 a2 a3) (below_four _ b0 b1 b2 b3) (k / 4) (omega arith) (k % 4) (omega arith))

-- what holds of each list of four elements
pub four_lanes : (P : List ℕ → Type 0) → ((a b c d : ℕ) → P (a ∷ b ∷ c ∷ d ∷ [])) → (xs : List ℕ) → length xs ≡ 4 → P xs
four_lanes P p (a ∷ b ∷ c ∷ d ∷ []) h = p a b c d
four_lanes P p [] h = absurd (omega arith)
four_lanes P p (a ∷ []) h = absurd (omega arith)
four_lanes P p (a ∷ b ∷ []) h = absurd (omega arith)
four_lanes P p (a ∷ b ∷ c ∷ []) h = absurd (omega arith)
four_lanes P p (a ∷ b ∷ c ∷ d ∷ e ∷ xs) h = absurd (omega arith)

-- a shift of each lane
abbrev Shifts : ℕ → List ℕ → Type 0
Shifts k a = (j : ℕ) → j < 4
    → slice_index (zip2 (λ x n. x / 2 ^ n) a (k ∷ k ∷ k ∷ k ∷ [])) j ≡ slice_index a j / 2 ^ k

pub shifts_each : (k : ℕ) → k < 32 → (a : List ℕ) → length a ≡ 4 → Shifts k a
shifts_each k high = four_lanes (Shifts k) (λ a0 a1 a2 a3. below_four _ refl refl refl refl)

-- two shifts of each lane and an or are a rotation
abbrev Rotates : ℕ → List ℕ → Type 0
Rotates k a = (j : ℕ) → j < 4
    → slice_index (zip2 bit_or
    (zip2 (λ x n. x / 2 ^ n) a (k ∷ k ∷ k ∷ k ∷ []))
    (zip2 (λ x n. x * 2 ^ n % 2 ^ 32) a ((32 - k) ∷ (32 - k) ∷ (32 - k) ∷ (32 - k) ∷ []))) j
    ≡ rotate_right w32 (slice_index a j) k

pub shifts_rotate : (k : ℕ) → 0 < k → k < 32 → (a : List ℕ) → length a ≡ 4 → Rotates k a
shifts_rotate k low high =
    let left : k % 32 ≡ k = omega arith in
    let right : (32 - k) % 32 ≡ 32 - k = omega arith in
    four_lanes (Rotates k) (λ a0 a1 a2 a3.
    below_four _ (rw (left, right) refl) (rw (left, right) refl) (rw (left, right) refl) (rw (left, right) refl))

-- word k of text j
pub word_of : (j : ℕ) (w : List (List ℕ)) (k : ℕ) → slice_index (words_of j w) k ≡ lane_at w k j
word_of j w k = get_or-map (λ v. slice_index v j) w k []

-- word k of a state
pub word_in_state : (j : ℕ) (x : List (List ℕ)) (k : ℕ) → k < 8 → slice_index (state_of j x) k ≡ lane_at x k j
word_in_state j x =
    below_eight _ refl refl refl refl refl refl refl refl

-- four elements are a list of four
pub four_are : {A : Type 0} (d : A) (xs : List A) → length xs ≡ 4
    → xs ≡ slice_index_or xs 0 d ∷ slice_index_or xs 1 d ∷ slice_index_or xs 2 d ∷ slice_index_or xs 3 d ∷ []
four_are e (a ∷ b ∷ c ∷ d ∷ []) h = refl
four_are e [] h = absurd (omega arith)
four_are e (a ∷ []) h = absurd (omega arith)
four_are e (a ∷ b ∷ []) h = absurd (omega arith)
four_are e (a ∷ b ∷ c ∷ []) h = absurd (omega arith)
four_are e (a ∷ b ∷ c ∷ d ∷ f ∷ xs) h = absurd (omega arith)
