use Rattle.statements.specs.Steps.{AnyRows}
use Rattle.statements.specs.Changes.{HasNoBound, bound_row_removed, token_row_removed, is_bound}
use Rattle.statements.proofs.Transactions.{writes_then}
use Rattle.statements.proofs.tokens.remove.Goals as goal
use Rattle.statements.proofs.Found.{all_deleted}

pub returns : goal.returns
returns g c = writes_then g.S.Store AnyRows (HasNoBound c.args.org.now c.args.name.now) (bound_row_removed c.args.org.now c.args.name.now) (token_row_removed c.args.org.now c.args.name.now)
    c.args.tx.now c.remove.new.tx c.remove_row.new.tx _ c.remove_row.result (λ t any. all_deleted (is_bound c.args.org.now c.args.name.now) t.bounds) c.in_ok-remove.ensures c.remove_row.ensures
