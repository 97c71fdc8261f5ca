use Rattle.pages.proofs.Outside.{state, reads_by}
use Rattle.pages.specs.declared.rows.TheConstants.{FIRST_PAGE}
use Rattle.pages.specs.Inner.Calls.{IsFirstPage}
use Rattle.pages.specs.Rows.{first_page}
use Rattle.pages.proofs.PageTexts.{first_page_asks}
use Rattle.pages.proofs.PageReads.{first_page_shows}
use Rattle.pages.proofs.rows.first.Goals as goal

pub returns-clause-read : goal.returns-clause-read
returns-clause-read g c clean =
    let old = state g.S.Store c.args.tx.now.conn.now in
    let new = state g.S.Store c.first_row_inside-row.new.tx.conn.now in
    reads_by (first_page c.args.key.now c.args.bytes.now) IsFirstPage old new FIRST_PAGE.now _ c.first_row_inside-row.result c.read_one.result
    (rw (c.params-to_sql.ensures, c.params-to_sql-2.ensures) at (c.first_row_inside-row.ensures.row first_page_asks.is_query clean)) (c.first_row_inside-row.ensures.calm first_page_asks.is_query clean) c.read_one.ensures
    (λ t holds row first. first_page_shows old new t holds c.args.key.now c.args.bytes.now row first)
