-- The index that `position` finds is the first that has the byte.
use Rattle.std.proofs.Common.{ℕ, ◌+◌, ◌==◌, length, take, drop, sym, ap, ◌∙◌, arith, rules, take_all}
use Rattle.std.proofs.lemmas.List.Sums.{position_or_len_is}
use Rattle.std.proofs.lemmas.List.{take_rest, drop_all}
use Rattle.route.proofs.tokens.cut_at.Goals as goal

pub returns-in-Some : goal.returns-in-Some
returns-in-Some c =
    let input = c.args.bytes.now in
    let found = position_or_len_is (λ (b : ℕ). b == c.args.byte) input c.in-Some.index 0 (search rules) (search rules) (search rules) in
    record { first = ap (λ n. take n input) (sym found); rest = take_rest input _ ∙ ap (λ n. drop (n + 1) input) (sym found) }

pub returns-in-None : goal.returns-in-None
returns-in-None c =
    let input = c.args.bytes.now in
    let none = position_or_len_is (λ (b : ℕ). b == c.args.byte) input (length input) 0 (omega arith) (search rules) (search rules) in
    record {
      first = sym (ap (λ n. take n input) none ∙ take_all (length input) input (omega arith));
      rest = sym (ap (λ n. drop (n + 1) input) none ∙ drop_all (length input + 1) input (omega arith));
    }
