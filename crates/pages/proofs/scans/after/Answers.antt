use Rattle.pages.proofs.Outside.{w64, to_z-of_z, queries_by}
use Rattle.pages.specs.Inner.Scans.{IsPageRow}
use Rattle.pages.proofs.RowTexts.{row_after_asks}
use Rattle.pages.proofs.RowReads.{row_after_shows}
use Rattle.pages.proofs.scans.after.Goals as goal

pub returns : goal.returns
returns g c =
    queries_by IsPageRow _ _ _ (c.first_row-row.ensures.mode, (λ clean. rw (c.params-to_sql.ensures, to_z-of_z w64 c.args.id c.ranges.id) at (c.first_row-row.ensures.row row_after_asks.is_query clean)), c.first_row-row.ensures.calm row_after_asks.is_query, c.first_row-row.ensures.survives row_after_asks.is_query) c.read_one.ensures
    (λ t holds row first. row_after_shows _ _ t holds c.args.id row first)
