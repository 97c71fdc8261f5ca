use Rattle.statements.proofs.Transactions.{makes_by}
use Rattle.statements.proofs.MetaTexts.{clear_version_does}
use Rattle.statements.proofs.making.clear_schema_version.Goals as goal

pub returns : goal.returns
returns g c = makes_by _ _ (c.write.ensures.same_reference, c.write.ensures.runs, c.write.ensures.survives) (λ count. clear_version_does _ _ count)
