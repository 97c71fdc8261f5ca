use Rattle.statements.proofs.Transactions.{makes_by}
use Rattle.statements.proofs.EditionTexts.{move_version_does}
use Rattle.statements.proofs.making.move_schema_version.Goals as goal

pub returns : goal.returns
returns g c = makes_by _ _ (c.write.ensures.same_reference, (λ clean inside. rw c.params-to_sql.ensures at (c.write.ensures.runs clean inside)), c.write.ensures.survives) (λ count. move_version_does c.args.schema_version c.requires.there c.args.schema_version _ _ count)
