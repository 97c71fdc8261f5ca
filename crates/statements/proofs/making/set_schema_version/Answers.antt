use Rattle.statements.proofs.Transactions.{makes_by}
use Rattle.statements.proofs.EditionTexts.{set_version_does}
use Rattle.statements.proofs.making.set_schema_version.Goals as goal

pub returns : goal.returns
returns g c = makes_by _ _ (c.write.ensures.same_reference, (λ clean inside. rw c.params-to_sql.ensures at (c.write.ensures.runs clean inside)), c.write.ensures.survives) (λ count. set_version_does c.args.schema_version c.requires.there _ _ count)
