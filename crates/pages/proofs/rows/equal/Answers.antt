use Rattle.pages.proofs.Outside.{state, reads_by}
use Rattle.pages.specs.declared.rows.TheConstants.{EQUAL_PAGE}
use Rattle.pages.specs.Inner.Calls.{IsPageUse}
use Rattle.pages.specs.Rows.{equal_page}
use Rattle.pages.proofs.PageTexts.{equal_page_asks}
use Rattle.pages.proofs.PageReads.{equal_page_shows}
use Rattle.pages.proofs.rows.equal.Goals as goal

pub returns-clause-read : goal.returns-clause-read
returns-clause-read g c clean =
    let old = state g.S.Store c.args.tx.now.conn.now in
    let new = state g.S.Store c.first_row_inside-row.new.tx.conn.now in
    reads_by (equal_page c.args.key.now c.args.bytes.now) IsPageUse old new EQUAL_PAGE.now _ c.first_row_inside-row.result c.read_one.result
    (rw (c.params-to_sql.ensures, c.params-to_sql-2.ensures) at (c.first_row_inside-row.ensures.row equal_page_asks.is_query clean)) (c.first_row_inside-row.ensures.calm equal_page_asks.is_query clean) c.read_one.ensures
    (λ t holds row first. equal_page_shows old new t holds c.args.key.now c.args.bytes.now row first)
