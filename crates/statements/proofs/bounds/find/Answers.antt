use Rattle.statements.specs.Calls.{IsBound}
use Rattle.statements.proofs.Transactions.{queries_by}
use Rattle.statements.proofs.BoundTexts.{find_bound_asks}
use Rattle.statements.proofs.BoundReads.{find_bound_shows}
use Rattle.statements.proofs.bounds.find.Goals as goal

pub returns : goal.returns
returns g c =
    queries_by IsBound _ _ _ (c.first_row-row.ensures.mode, (λ clean. rw (c.params-to_sql.ensures, c.params-to_sql-2.ensures) at (c.first_row-row.ensures.row find_bound_asks.is_query clean)), c.first_row-row.ensures.calm find_bound_asks.is_query, c.first_row-row.ensures.survives find_bound_asks.is_query) c.read_one.ensures
    (λ t holds row first. find_bound_shows _ _ t holds c.args.org.now c.args.name.now row first)
