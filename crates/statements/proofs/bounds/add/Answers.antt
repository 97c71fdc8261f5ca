use Rattle.statements.proofs.Codes.{optional_number, bound_number}
use Rattle.statements.proofs.Transactions.{writes_by}
use Rattle.statements.proofs.BoundWrites.{add_bound_does}
use Rattle.statements.proofs.bounds.add.Goals as goal

pub returns : goal.returns
returns g c =
    writes_by _ _ (c.write.ensures.same_reference, (λ clean inside. rw (c.params-to_sql.ensures, c.params-to_sql-2.ensures, c.params-to_sql-3.ensures, c.params-to_sql-4.ensures, c.optional_seconds-until.ensures, c.as_str-prefix.ensures.text, optional_number c.args.bounds.now.until, bound_number c.args.bounds.now.until) at (c.write.ensures.runs clean inside)), c.write.ensures.survives)
    (λ count t holds. add_bound_does _ _ count t holds c.args.org.now c.args.name.now c.args.bounds.now.until c.args.bounds.now.prefix)
