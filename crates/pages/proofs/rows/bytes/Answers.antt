use Rattle.pages.proofs.Outside.{pos, w64, to_z-of_z, queries_by, IsBody}
use Rattle.pages.proofs.PageTexts.{page_bytes_asks}
use Rattle.pages.proofs.PageReads.{page_bytes_shows}
use Rattle.pages.proofs.rows.bytes.Goals as goal

pub returns : goal.returns
returns g c =
    queries_by IsBody _ _ _ (c.first_row-row.ensures.mode, (λ clean. rw (c.params-to_sql.ensures, c.params-to_sql-2.ensures, c.signed-twin.ensures.value, to_z-of_z w64 (pos c.args.twin) (record { sfits = c.signed-twin.ensures.fits })) at (c.first_row-row.ensures.row page_bytes_asks.is_query clean)), c.first_row-row.ensures.calm page_bytes_asks.is_query, c.first_row-row.ensures.survives page_bytes_asks.is_query) c.read_one.ensures
    (λ t holds row first. page_bytes_shows _ _ t holds c.args.key.now c.args.twin row first)
