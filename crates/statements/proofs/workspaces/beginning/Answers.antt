use Rattle.std.proofs.Common.{◌∙◌, sym, ap, cond}
use Rattle.statements.proofs.Prefixes.{later_if}
use Rattle.statements.proofs.workspaces.beginning.Goals as goal

pub returns-then-lt : goal.returns-then-lt
returns-then-lt c =
    sym (later_if c.args.after.now c.args.prefix.now c.lt.result c.as_bytes.result c.as_bytes-2.result c.lt.ensures c.as_bytes.ensures.value c.as_bytes-2.ensures.value
    ∙ ap (λ b. cond b c.args.prefix.now c.args.after.now) c.if-lt.true)

pub returns-else-lt : goal.returns-else-lt
returns-else-lt c =
    sym (later_if c.args.after.now c.args.prefix.now c.lt.result c.as_bytes.result c.as_bytes-2.result c.lt.ensures c.as_bytes.ensures.value c.as_bytes-2.ensures.value
    ∙ ap (λ b. cond b c.args.prefix.now c.args.after.now) c.if-lt.false)
