use Rattle.statements.proofs.Transactions.{makes_by}
use Rattle.statements.proofs.Makes.{maker_does}
use Rattle.statements.proofs.making.make.Goals as goal

pub returns : goal.returns
returns g c made is = makes_by _ _ (c.write.ensures.same_reference, c.write.ensures.runs, c.write.ensures.survives) (λ count. maker_does c.args.text.now made is _ _ _ count)
