-- How a text's hash value and digest follow its blocks.
use Rattle.std.proofs.Common.{◌≡◌, ◌≢◌, ℕ, suc, ◌<◌, ◌≤◌, ◌+◌, ◌-◌, ◌/◌, ◌%◌, List, [], length, map, arith, refl, sym, ap, ◌∙◌, inl, inr, length-append, slice_index_or, Bor}
use Rattle.std.proofs.lemmas.List.{length-replicate}
use Rattle.std.proofs.lemmas.Bool.{cases_lt}
use Rattle.sha2.specs.Sha256.{compress, digest_bytes, hash_after, initial_hash_256, padded_message, padding, sha256}
use Rattle.sha2.proofs.Absorbing256.{hash_after_next}
use Rattle.lanes.specs.Inner.Lanes.{block_of, count_of, one_of}
use Rattle.lanes.proofs.LaneLemmas.{four_are}

-- after n blocks of the text m, its hash value is state, and its digest is kept once all are done
pub record Follows (m state key : List ℕ) (n : ℕ) : Type 0 where
  pub hash : n ≤ count_of m → state ≡ hash_after initial_hash_256 (padded_message m) n
  pub digest : count_of m ≤ n → key ≡ sha256 m

pub follows_none : (m state key : List ℕ) → state ≡ initial_hash_256 → Follows m state key 0
unfolding hash_after
follows_none m state key e = record { hash = λ few. e; digest = λ all. absurd (omega arith) }

-- the blocks of a padded text
count_padded : (m : List ℕ) → length (padded_message m) / 64 ≡ count_of m
count_padded m =
    let n = length m in
    let zeros = (119 - n % 64) % 64 in
    let whole = length-append m (padding n) in
    let parts : length (padding n) ≡ 1 + zeros + 8 =
    ap suc (length-append _ _ ∙ ap (λ (k : ℕ). k + 8) (length-replicate {A = ℕ} zeros 0)) ∙ omega arith in
    omega arith

digest_whole : (m : List ℕ) → digest_bytes (hash_after initial_hash_256 (padded_message m) (count_of m)) 8 ≡ sha256 m
unfolding sha256
digest_whole m = ap (λ (n : ℕ). digest_bytes (hash_after initial_hash_256 (padded_message m) n) 8) (sym (count_padded m))

pub follows_next : (m state key next kept b : List ℕ) (n count : ℕ) → Follows m state key n → count ≡ count_of m
    → (n < count_of m → b ≡ block_of m n) → next ≡ compress state b
    → (n + 1 ≡ count → kept ≡ digest_bytes next 8) → (n + 1 ≢ count → kept ≡ key)
    → Follows m next kept (n + 1)
follows_next m state key next kept b n count before counted block stepped last other =
    let hashed : n + 1 ≤ count_of m → next ≡ hash_after initial_hash_256 (padded_message m) (n + 1) =
    λ few. rw (stepped, before.hash (omega arith), block (omega arith)) (sym (hash_after_next initial_hash_256 (padded_message m) n)) in
    record {
      hash = hashed;
      digest = λ all. elim (cases_lt n (count_of m)) [
        | inl few ↦
            let at : n + 1 ≡ count_of m = omega arith in
            last (omega arith) ∙ ap (λ (h : List ℕ). digest_bytes h 8) (hashed (omega arith)) ∙ ap (λ (k : ℕ). digest_bytes (hash_after initial_hash_256 (padded_message m) k) 8) at
            ∙ digest_whole m
        | inr done ↦ other (omega arith) ∙ before.digest (omega arith)
      ];
    }

pub digests_are : (none : Bor (List ℕ)) (texts : List (Bor (List ℕ))) (digests : List (List ℕ)) → length texts ≡ 4 → length digests ≡ 4
    → ((j : ℕ) → j < 4 → slice_index_or digests j []
    ≡ sha256 (one_of j (slice_index_or texts 0 none).now (slice_index_or texts 1 none).now (slice_index_or texts 2 none).now (slice_index_or texts 3 none).now))
    → digests ≡ map (λ text. sha256 text.now) texts
digests_are none texts digests four four_digests each =
    four_are [] digests four_digests
    ∙ rw (each 0 (omega arith), each 1 (omega arith), each 2 (omega arith), each 3 (omega arith)) refl
    ∙ ap (map (λ text. sha256 text.now)) (sym (four_are none texts four))
