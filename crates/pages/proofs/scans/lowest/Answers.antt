use Rattle.statements.proofs.Transactions.{queries_by}
use Rattle.pages.specs.Inner.Scans.{IsPageRow}
use Rattle.pages.proofs.RowTexts.{first_row_asks}
use Rattle.pages.proofs.RowReads.{first_row_shows}
use Rattle.pages.proofs.scans.lowest.Goals as goal

pub returns : goal.returns
returns g c =
    queries_by IsPageRow _ _ _ (c.first_row-row.ensures.mode, (c.first_row-row.ensures.row first_row_asks.is_query), c.first_row-row.ensures.calm first_row_asks.is_query, c.first_row-row.ensures.survives first_row_asks.is_query) c.read_one.ensures
    (λ t holds row first. first_row_shows _ _ t holds row first)
