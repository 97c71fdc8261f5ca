use Rattle.std.proofs.Common.{is_some}
use Rattle.statements.specs.Finds.{workspace_of}
use Rattle.statements.specs.declared.workspaces.TheConstants.{SET_NEXT_VERSION}
use Rattle.statements.proofs.Transactions.{writes_by, any_wrote, finds_by}
use Rattle.statements.proofs.WsWrites.{set_next_version_does, set_next_version_finds}
use Rattle.statements.proofs.workspaces.set_next_version.Goals as goal

pub returns-clause-writes : goal.returns-clause-writes
returns-clause-writes g c =
    writes_by _ _ (c.update.ensures.same_reference, (λ clean inside. any_wrote _ _ _ _ c.update.result (rw (c.params-to_sql.ensures, c.params-to_sql-2.ensures, c.params-to_sql-3.ensures) at (c.update.ensures.runs clean inside))), c.update.ensures.survives)
    (λ count t holds. set_next_version_does _ _ count t holds c.args.org.now c.args.name.now c.args.next)

pub returns-clause-found : goal.returns-clause-found
returns-clause-found g c clean inside =
    finds_by (λ t. is_some (workspace_of c.args.org.now c.args.name.now t)) _ _ SET_NEXT_VERSION.now _ c.update.result
    (rw (c.params-to_sql.ensures, c.params-to_sql-2.ensures, c.params-to_sql-3.ensures) at (c.update.ensures.runs clean inside))
    (λ count t holds. set_next_version_finds _ _ count t holds c.args.org.now c.args.name.now c.args.next)
