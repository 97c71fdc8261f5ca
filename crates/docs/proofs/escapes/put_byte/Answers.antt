use Rattle.std.proofs.Common.{arith, sym, ap, ◌∙◌, ◌++◌}
use Rattle.docs.specs.Escapes.{escaped_from}
use Rattle.docs.proofs.Escaping.{step_skipped, step_plain, step_escaped}
use Rattle.docs.proofs.escapes.put_byte.Goals as goal

pub returns-then-skip-gt0 : goal.returns-then-skip-gt0
returns-then-skip-gt0 c = λ rest second third. ap (λ xs. c.args.out.now.items ++ xs) (step_skipped c.args.skip c.args.first rest c.if-skip-gt0.true)

pub returns-then-code-eq0 : goal.returns-then-code-eq0
returns-then-code-eq0 c = λ rest second third.
    ap (λ xs. xs ++ escaped_from 0 rest) c.in_ok-push.ensures.items
    ∙ step_plain c.args.skip c.args.first c.args.second c.args.third rest c.args.out.now.items (omega (arith, c.if-skip-gt0.false)) (sym c.acting-code.ensures ∙ c.if-code-eq0.true) second third

pub returns : goal.returns
returns c = λ rest second third.
    rw (c.in_ok-put_escape.ensures, c.behind_first.ensures, c.acting-code.ensures)
    (step_escaped c.args.skip c.args.first c.args.second c.args.third rest c.args.out.now.items (omega (arith, c.if-skip-gt0.false)) (λ is. c.if-code-eq0.false (c.acting-code.ensures ∙ is)) second third)
