use Rattle.std.proofs.Common.{◌∷◌, ◌++◌, [], sym, ap, ◌∙◌, arith}
use Rattle.sqlite_resolve.specs.Compile.{table_defined_by}
use Rattle.definitions.proofs.Defining.{next_defined, all_defined}
use Rattle.definitions.proofs.ours.defined_by.Goals as goal

pub loop-text-preserved : goal.loop-text-preserved
loop-text-preserved c tables are =
    let table = c.in-Ok.table in
    let next = next_defined c.args.texts.now tables c.loop-text.text-index _ table are c.loop-text-test.true (ap table_defined_by (sym c.as_bytes.ensures.value) ∙ c.in-Ok.ensures) in
    c.in_ok-push.ensures.ok ∙ ap (λ l. l ++ table ∷ []) (c.loop-text.invariant tables are) ∙ next

pub returns : goal.returns
returns c tables are = c.loop-text.invariant tables are ∙ all_defined c.args.texts.now tables c.loop-text.text-index are (omega (arith, c.loop-text-test.false))
