use Rattle.std.proofs.Common.{refl}
use Rattle.tables.proofs.There.{all_named_then, not_all_named}
use Rattle.tables.proofs.opening.first_there.Goals as goal

pub returns-then-all_named : goal.returns-then-all_named
returns-then-all_named c =
    all_named_then (λ name. name.now) c.args.schema.now c.args.count _ c.split_at.result.0.now c.split_at.result.1.now refl c.split_at.ensures.front c.split_at.ensures.back c.all_named.result c.any_named.result c.all_named.ensures c.if-all_named.true c.any_named.ensures

pub returns-else-all_named : goal.returns-else-all_named
returns-else-all_named c =
    not_all_named (λ name. name.now) c.args.schema.now c.args.count _ c.split_at.result.0.now c.split_at.result.1.now refl c.split_at.ensures.front c.split_at.ensures.back c.all_named.result c.all_named.ensures c.if-all_named.false
