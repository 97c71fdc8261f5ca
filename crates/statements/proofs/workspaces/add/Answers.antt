use Rattle.statements.specs.Steps.{AnyRows}
use Rattle.statements.specs.Changes.{ws_row_added, retention_row_added}
use Rattle.statements.proofs.Transactions.{writes_then}
use Rattle.statements.proofs.workspaces.add.Goals as goal

pub returns-clause-writes : goal.returns-clause-writes
returns-clause-writes g c = writes_then g.S.Store AnyRows AnyRows (ws_row_added c.args.org.now c.args.name.now c.args.runs) (retention_row_added c.args.org.now c.args.name.now c.args.retention)
    c.args.tx.now c.add_row.new.tx c.add.new.tx _ c.add.result (λ t any. tt) c.in_ok-add_row.ensures.writes c.add.ensures
