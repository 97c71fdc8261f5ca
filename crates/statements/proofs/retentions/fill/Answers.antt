use Rattle.statements.proofs.Transactions.{makes_by}
use Rattle.statements.proofs.RetentionWrites.{fill_retentions_does}
use Rattle.statements.proofs.retentions.fill.Goals as goal

pub returns : goal.returns
returns g c = makes_by _ _ (c.write.ensures.same_reference, c.write.ensures.runs, c.write.ensures.survives) (λ count. fill_retentions_does _ _ count)
