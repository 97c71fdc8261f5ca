use Rattle.statements.proofs.Transactions.{writes_by}
use Rattle.statements.proofs.EditionTexts.{retold}
use Rattle.statements.proofs.making.touch_schema_version.Goals as goal

pub returns : goal.returns
returns g c = writes_by _ _ (c.write.ensures.same_reference, (λ clean inside. rw c.params-to_sql.ensures at (c.write.ensures.runs clean inside)), c.write.ensures.survives) (λ count t holds. retold _ _ count t holds)
