use Rattle.pages.proofs.Outside.{state, reads_by, IsNumber}
use Rattle.pages.specs.declared.rows.TheConstants.{FIRST_TWIN}
use Rattle.pages.specs.Rows.{first_twin}
use Rattle.pages.proofs.PageTexts.{first_twin_asks}
use Rattle.pages.proofs.PageReads.{first_twin_shows}
use Rattle.pages.proofs.rows.first_twin.Goals as goal

pub returns-clause-read : goal.returns-clause-read
returns-clause-read g c clean =
    let old = state g.S.Store c.args.tx.now.conn.now in
    let new = state g.S.Store c.first_row_inside-row.new.tx.conn.now in
    reads_by (first_twin c.args.key.now) IsNumber old new FIRST_TWIN.now _ c.first_row_inside-row.result c.read_one.result
    (rw c.params-to_sql.ensures at (c.first_row_inside-row.ensures.row first_twin_asks.is_query clean)) (c.first_row_inside-row.ensures.calm first_twin_asks.is_query clean) c.read_one.ensures
    (λ t holds row first. first_twin_shows old new t holds c.args.key.now row first)
