use Rattle.pages.proofs.Outside.{pos, w64, to_z-of_z, state, reads_by, IsNumber}
use Rattle.pages.specs.declared.rows.TheConstants.{FIND_PAGE_USES}
use Rattle.pages.specs.Rows.{page_uses}
use Rattle.pages.proofs.PageTexts.{page_uses_asks}
use Rattle.pages.proofs.PageReads.{page_uses_shows}
use Rattle.pages.proofs.rows.uses.Goals as goal

pub returns-clause-read : goal.returns-clause-read
returns-clause-read g c clean =
    let old = state g.S.Store c.args.tx.now.conn.now in
    let new = state g.S.Store c.first_row_inside-row.new.tx.conn.now in
    reads_by (page_uses c.args.key.now c.args.twin) IsNumber old new FIND_PAGE_USES.now _ c.first_row_inside-row.result c.read_one.result
    (rw (c.params-to_sql.ensures, c.params-to_sql-2.ensures, c.signed-twin.ensures.value, to_z-of_z w64 (pos c.args.twin) (record { sfits = c.signed-twin.ensures.fits })) at (c.first_row_inside-row.ensures.row page_uses_asks.is_query clean)) (c.first_row_inside-row.ensures.calm page_uses_asks.is_query clean) c.read_one.ensures
    (λ t holds row first. page_uses_shows old new t holds c.args.key.now c.args.twin row first)
