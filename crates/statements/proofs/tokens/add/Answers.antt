use Rattle.statements.specs.Steps.{AnyRows}
use Rattle.statements.specs.Changes.{token_row_added, bound_row_added}
use Rattle.statements.proofs.Transactions.{writes_then}
use Rattle.statements.proofs.tokens.add.Goals as goal

pub returns : goal.returns
returns g c = writes_then g.S.Store AnyRows AnyRows (token_row_added c.args.org.now c.args.name.now c.args.digest.now c.args.role)
    (bound_row_added c.args.org.now c.args.name.now c.args.bounds.now.until c.args.bounds.now.prefix) c.args.tx.now c.add_row.new.tx c.add.new.tx _ c.add.result (λ t any. tt) c.in_ok-add_row.ensures c.add.ensures
