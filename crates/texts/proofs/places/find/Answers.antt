use Rattle.texts.proofs.Outside.{pos, w64, to_z-of_z, queries_by, IsPageName}
use Rattle.texts.proofs.PlaceTexts.{page_at_asks}
use Rattle.texts.proofs.PlaceReads.{page_at_shows}
use Rattle.texts.proofs.places.find.Goals as goal

pub returns : goal.returns
returns g c =
    queries_by IsPageName _ _ _ (c.first_row-row.ensures.mode, (λ clean. rw (c.get-number.ensures.value, c.signed-place.ensures.value, to_z-of_z w64 (pos c.args.place) (record { sfits = c.signed-place.ensures.fits })) at (rw (c.params-to_sql.ensures, c.params-to_sql-2.ensures, c.params-to_sql-3.ensures, c.params-to_sql-4.ensures) at (c.first_row-row.ensures.row page_at_asks.is_query clean))), c.first_row-row.ensures.calm page_at_asks.is_query, c.first_row-row.ensures.survives page_at_asks.is_query) c.read_one.ensures
    (λ t holds row first. page_at_shows _ _ t holds c.args.org.now c.args.ws.now c.args.number c.args.place row first)
