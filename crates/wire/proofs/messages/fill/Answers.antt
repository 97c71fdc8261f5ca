use Rattle.std.proofs.Common.{◌≡◌, ◌-◌, ◌≤◌, ◌+◌, ℕ, ◌++◌, length, take, append_assoc, ap, ◌∙◌, arith, rules}
use Rattle.std.proofs.KnownBytes.{Consumes-trans}
use Rattle.wire.proofs.FillLemmas.{rest_fills, filled_more, filled_same}
use Rattle.wire.proofs.messages.fill.Goals as goal

pub filling-preserved : goal.filling-preserved
filling-preserved g c =
    let n : ℕ = c.in-Ok.count in
    let before = c.filling.invariant.received in
    let fits : c.filling.filled ≤ length c.filling.body = (let short = c.filling.invariant.short in let same = c.filling.invariant.same in omega (arith, short, same)) in
    let part = c.read.new.buf in
    let whole = c.read.auto.buf in
    let rest : length part ≡ length c.filling.body - c.filling.filled = rest_fills c.filling.filled c.filling.body part fits whole in
    let few : c.filling.filled + n ≤ length c.args.body.now = (let short = c.filling.invariant.short in let same = c.filling.invariant.same in let most = c.in-Ok.ensures.bound.0 in omega (arith, short, same, most, rest)) in
    record {
      sound = c.in-Ok.ensures.cause;
      goes_on = search rules;
      received = (
        before.0 ++ take n part,
        Consumes-trans _ _ _ before.0 (take n part) before.1 c.in-Ok.ensures.bytes.0,
        filled_more c.filling.filled c.filling.body part fits whole n c.in-Ok.ensures.bound.0 ∙ ap (λ xs. xs ++ take n part) before.2 ∙ append_assoc (take c.args.body_start c.args.body.now) before.0 (take n part),
      );
      short = few;
      same = filled_same c.filling.filled c.filling.body part fits whole ∙ c.filling.invariant.same;
    }
