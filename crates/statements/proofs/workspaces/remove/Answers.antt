use Rattle.statements.specs.Steps.{AnyRows}
use Rattle.statements.specs.Changes.{HasNoRetention, retention_row_removed, ws_row_removed, is_retention}
use Rattle.statements.proofs.Transactions.{writes_then}
use Rattle.statements.proofs.workspaces.remove.Goals as goal
use Rattle.statements.proofs.Found.{all_deleted}

pub returns : goal.returns
returns g c = writes_then g.S.Store AnyRows (HasNoRetention c.args.org.now c.args.name.now) (retention_row_removed c.args.org.now c.args.name.now) (ws_row_removed c.args.org.now c.args.name.now)
    c.args.tx.now c.remove.new.tx c.remove_row.new.tx _ c.remove_row.result (λ t any. all_deleted (is_retention c.args.org.now c.args.name.now) t.retentions) c.in_ok-remove.ensures c.remove_row.ensures
