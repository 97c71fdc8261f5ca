-- Bytes that are read right into their place.
use Rattle.std.proofs.Common.{◌≡◌, ◌≤◌, ◌+◌, ◌-◌, ℕ, List, ◌++◌, length, take, drop, refl, sym, ap, ◌∙◌, arith}
use Rattle.std.proofs.Common.{take-take, length-take-le, length-drop}
use Rattle.std.proofs.lemmas.Slice.{take-put_mid}
use Rattle.std.proofs.Math.Seq.{take-append-add}
use borrow.Rule.Slice.PartMut.{put_mid, same_len_mid}

module _ (filled : ℕ) (bytes part : List ℕ) (fits : filled ≤ length bytes) (whole : length part ≡ length (take (length bytes - filled) (drop filled bytes))) where
  pub rest_fills : length part ≡ length bytes - filled
  rest_fills = whole ∙ length-take-le (length bytes - filled) (drop filled bytes) (omega (arith, length-drop filled bytes))

  abbrev written : List ℕ
  written = put_mid filled (length bytes - filled) bytes part

  -- those that a read gave come behind those that there were
  pub filled_more : (count : ℕ) → count ≤ length part → take (filled + count) written ≡ take filled bytes ++ take count part
  filled_more count few =
      let all : take (filled + length part) written ≡ take filled bytes ++ part = take-put_mid filled (length bytes - filled) bytes part (filled + length part) refl fits in
      let len : length (take filled bytes) ≡ filled = length-take-le filled bytes fits in
      sym (take-take (filled + count) (filled + length part) written (omega (arith, few)))
      ∙ ap (take (filled + count)) all
      ∙ ap (λ (n : ℕ). take (n + count) (take filled bytes ++ part)) (sym len)
      ∙ take-append-add (take filled bytes) part count

  pub filled_same : length written ≡ length bytes
  filled_same = same_len_mid filled (length bytes - filled) bytes part whole
