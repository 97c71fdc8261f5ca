use Rattle.std.proofs.Common.{◌≡◌, None}
use Rattle.statements.specs.Finds.{workspace_of}
use Rattle.statements.specs.declared.workspaces.TheConstants.{ADD_WS}
use Rattle.statements.proofs.Transactions.{writes_by, reports_by}
use Rattle.statements.proofs.WsWrites.{add_ws_does, add_ws_finds}
use Rattle.statements.proofs.workspaces.add_row.Goals as goal

pub returns-clause-writes : goal.returns-clause-writes
returns-clause-writes g c =
    writes_by _ _ (c.write.ensures.same_reference, (λ clean inside. rw c.params_of.ensures at (c.write.ensures.runs clean inside)), c.write.ensures.survives)
    (λ count t holds. add_ws_does _ _ count t holds c.args.org.now c.args.name.now c.args.runs)

pub returns-clause-fresh : goal.returns-clause-fresh
returns-clause-fresh g c clean inside =
    reports_by (λ t. workspace_of c.args.org.now c.args.name.now t ≡ None) _ _ ADD_WS.now _ c.write.result
    (rw c.params_of.ensures at (c.write.ensures.runs clean inside))
    (λ count t holds. add_ws_finds _ _ count t holds c.args.org.now c.args.name.now c.args.runs)
