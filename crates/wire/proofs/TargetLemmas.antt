-- A host ends between characters.
use Rattle.std.proofs.Common.{◌≡◌, ℕ, ◌+◌, ◌-◌, ◌<◌, ◌≤◌, List, length, drop, get_or, Bool, true, false, not, ◌||◌, ◌==◌, refl, sym, ap, ◌∙◌, arith}
use Rattle.std.proofs.lemmas.Bool.{eqb-true}
use Rattle.std.proofs.lemmas.List.{get_or-drop, length-drop}
use Rattle.std.proofs.lemmas.List.Sums.{passes_at_first, prefix_len-le-length}
use Rattle.std.specs.List.{position_or_len}
use Rattle.wire.specs.Targets.{ends_host}

ends_small : (b : ℕ) → ends_host b ≡ true → b < 128
ends_small b e = by_slash (b == 47) refl
  where
    by_slash : (t : Bool) → (b == 47) ≡ t → b < 128
    by_slash true f = let g : b ≡ 47 = eqb-true b 47 f in omega arith
    by_slash false f = let g : b ≡ 63 = eqb-true b 63 (ap (λ t. t || (b == 63)) (sym f) ∙ e) in omega arith

pub host_end : (target : List ℕ) (n : ℕ) → n ≡ position_or_len ends_host (drop 7 target) → 7 ≤ length target
    → (7 + n ≤ length target) × (7 + n < length target → 128 ≤ get_or target (7 + n) 0 → 192 ≤ get_or target (7 + n) 0)
host_end target n e long =
    let len : length (drop 7 target) ≡ length target - 7 = length-drop 7 target in
    let bound : n ≤ length (drop 7 target) = rw e (prefix_len-le-length (λ b. not (ends_host b)) (drop 7 target)) in (
      omega arith,
      λ inside high.
          let h : position_or_len ends_host (drop 7 target) < length (drop 7 target) = omega arith in
          let small : get_or (drop 7 target) (position_or_len ends_host (drop 7 target)) 0 < 128 =
          ends_small _ (passes_at_first ends_host (drop 7 target) 0 h) in
          let same : get_or (drop 7 target) n 0 ≡ get_or target (7 + n) 0 = get_or-drop 7 target n 0 in
          let small2 : get_or (drop 7 target) n 0 < 128 = rw e small in
          absurd (omega (arith, same, small2, high)),
    )
