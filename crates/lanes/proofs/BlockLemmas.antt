-- The blocks of a text with its padding.
use Rattle.std.proofs.Common.{◌≡◌, ℕ, ◌<◌, ◌≤◌, ◌+◌, ◌-◌, ◌*◌, ◌/◌, ◌%◌, ◌^◌, List, ◌∷◌, ◌++◌, length, take, drop, replicate, arith, refl, sym, ap, ◌∙◌, length-append, length-drop}
use Rattle.std.proofs.lemmas.List.{take-append-le, drop-append-le, append_assoc, drop-take, drop-drop, take-take, take_at, length-replicate, length-take}
use Rattle.std.proofs.lemmas.Slice.{take-put_mid}
use Rattle.std.specs.Int.{w64, to_be_bytes}
use Rattle.sha2.specs.Sha256.{padded_message, padding}
use Rattle.lanes.specs.Inner.Lanes.{block_of, count_of}
use borrow.Rule.Slice.PartMut.{put_mid}

-- a block of the text alone
pub block_whole : (m : List ℕ) (n : ℕ) → n < length m / 64 → take 64 (drop (n * 64) m) ≡ block_of m n
block_whole m n lt =
    let fits : 64 ≤ length (drop (n * 64) m) = omega (arith, length-drop (n * 64) m) in
    sym (rw (drop-append-le (n * 64) m (padding (length m)) (omega arith)) (take-append-le 64 (drop (n * 64) m) (padding (length m)) fits))

-- a block of what follows the whole blocks
pub block_tail : (m t : List ℕ) (n a : ℕ)
    → take (64 * count_of m - length m / 64 * 64) t ≡ drop (length m / 64 * 64) (padded_message m)
    → n < count_of m → length m / 64 * 64 + a ≡ n * 64 → take 64 (drop a t) ≡ block_of m n
block_tail m t n a held lt at =
    let start = length m / 64 * 64 in
    let long = 64 * count_of m - start in
    let p = padded_message m in
    sym (drop-take a 64 t) ∙ ap (drop a) (sym (take-take (a + 64) long t (omega arith)) ∙ ap (take (a + 64)) held)
    ∙ drop-take a 64 (drop start p) ∙ ap (take 64) (drop-drop a start p) ∙ ap (λ (k : ℕ). take 64 (drop k p)) at

-- what follows the whole blocks, written in three pieces
pub tail_made : (m rest zs first bits : List ℕ) (i j : ℕ) → rest ≡ drop (length m / 64 * 64) m
    → first ≡ 0x80 ∷ replicate ((119 - length m % 64) % 64) 0 → bits ≡ to_be_bytes w64 (length m * 8 % 2 ^ 64)
    → zs ≡ drop (length m % 64) (replicate 128 0)
    → take (64 * count_of m - length m / 64 * 64)
    (put_mid (length m % 64 + length first) j (put_mid (length m % 64) i (rest ++ zs) first) bits)
    ≡ drop (length m / 64 * 64) (padded_message m)
tail_made m rest zs first bits i j er ef eb ez =
    let start = length m / 64 * 64 in
    let used = length m % 64 in
    let zeros = (119 - used) % 64 in
    let lr : length rest ≡ used = omega (arith, ap length er, length-drop start m) in
    let lf : length first ≡ zeros + 1 = ap length ef ∙ omega (arith, length-replicate {A = ℕ} zeros 0) in
    let lz : length zs ≡ 128 - used = ap length ez ∙ length-drop used (replicate 128 0) in
    let len = length-append rest zs in
    let lb : length bits ≡ 8 = rw eb refl in
    let mid = put_mid used i (rest ++ zs) first in
    let one : take (used + length first) mid ≡ rest ++ first =
    take-put_mid used i (rest ++ zs) first (used + length first) refl (omega arith) ∙ ap (λ (l : List ℕ). l ++ first) (take_at rest zs used lr) in
    let room : used + length first ≤ length mid =
    omega (arith, ap length one, length-append rest first, length-take (used + length first) mid) in
    let two : take (used + length first + length bits) (put_mid (used + length first) j mid bits) ≡ (rest ++ first) ++ bits =
    take-put_mid (used + length first) j mid bits (used + length first + length bits) refl room ∙ ap (λ (l : List ℕ). l ++ bits) one in
    let total : 64 * count_of m - start ≡ used + length first + length bits = omega arith in
    rw total (two ∙ append_assoc rest first bits ∙ rw (er, ef, eb) (sym (drop-append-le start m (padding (length m)) (omega arith))))
