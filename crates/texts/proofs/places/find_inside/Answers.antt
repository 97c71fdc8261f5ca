use Rattle.texts.proofs.Outside.{pos, w64, to_z-of_z, state, reads_by, IsPageName}
use Rattle.texts.specs.declared.places.TheConstants.{PAGE_AT}
use Rattle.texts.specs.Texts.{page_at}
use Rattle.texts.proofs.PlaceTexts.{page_at_asks}
use Rattle.texts.proofs.PlaceReads.{page_at_shows}
use Rattle.texts.proofs.places.find_inside.Goals as goal

pub returns-clause-read : goal.returns-clause-read
returns-clause-read g c clean =
    let old = state g.S.Store c.args.tx.now.conn.now in
    let new = state g.S.Store c.first_row_inside-row.new.tx.conn.now in
    reads_by (page_at c.args.org.now c.args.ws.now c.args.number c.args.place) IsPageName old new PAGE_AT.now _ c.first_row_inside-row.result c.read_one.result
    (rw (c.get-number.ensures.value, c.signed-place.ensures.value, to_z-of_z w64 (pos c.args.place) (record { sfits = c.signed-place.ensures.fits })) at (rw (c.params-to_sql.ensures, c.params-to_sql-2.ensures, c.params-to_sql-3.ensures, c.params-to_sql-4.ensures) at (c.first_row_inside-row.ensures.row page_at_asks.is_query clean))) (c.first_row_inside-row.ensures.calm page_at_asks.is_query clean) c.read_one.ensures
    (λ t holds row first. page_at_shows old new t holds c.args.org.now c.args.ws.now c.args.number c.args.place row first)
