use Rattle.statements.proofs.Transactions.{queries_by}
use Rattle.pages.specs.Inner.Calls.{IsPageUse}
use Rattle.pages.proofs.PageTexts.{equal_page_asks}
use Rattle.pages.proofs.PageReads.{equal_page_shows}
use Rattle.pages.proofs.scans.equal.Goals as goal

pub returns : goal.returns
returns g c =
    queries_by IsPageUse _ _ _ (c.first_row-row.ensures.mode, (λ clean. rw (c.params-to_sql.ensures, c.params-to_sql-2.ensures) at (c.first_row-row.ensures.row equal_page_asks.is_query clean)), c.first_row-row.ensures.calm equal_page_asks.is_query, c.first_row-row.ensures.survives equal_page_asks.is_query) c.read_one.ensures
    (λ t holds row first. equal_page_shows _ _ t holds c.args.key.now c.args.bytes.now row first)
