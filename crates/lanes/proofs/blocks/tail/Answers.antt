use Rattle.std.proofs.Common.{refl, ◌≡◌, ℕ, ◌∙◌, ◌-◌, ◌*◌, ◌/◌, ◌%◌, ap, arith, drop, length}
use Rattle.std.proofs.lemmas.List.{take_rest}
use Rattle.lanes.proofs.BlockLemmas.{tail_made}
use Rattle.lanes.proofs.blocks.tail.Goals as goal

pub returns : goal.returns
returns c =
    let m = c.args.text.now in
    let start : length m - length m % 64 ≡ length m / 64 * 64 = omega arith in
    rw c.copy_from_slice-2.ensures.after
    (tail_made m _ _ c.padding-first.result.now _ _ _
    (c.copy_from_slice.ensures.after ∙ take_rest m (length m - length m % 64) ∙ ap (λ (k : ℕ). drop k m) start)
    c.padding-first.ensures (c.copy_from_slice-3.ensures.after ∙ c.to_be_bytes.ensures) refl)
