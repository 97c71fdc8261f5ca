use Rattle.statements.proofs.Transactions.{writes_by}
use Rattle.statements.proofs.OrgWrites.{add_org_does}
use Rattle.statements.proofs.organizations.add.Goals as goal

pub returns : goal.returns
returns g c =
    writes_by _ _ (c.write.ensures.same_reference, (λ clean inside. rw (c.params-to_sql.ensures, c.params-to_sql-2.ensures, c.get-cap.ensures.value) at (c.write.ensures.runs clean inside)), c.write.ensures.survives)
    (λ count t holds. add_org_does _ _ count t holds c.args.name.now c.args.cap)
