use Rattle.texts.proofs.Outside.{pos, w64, to_z-of_z, writes_by}
use Rattle.texts.proofs.PlaceWrites.{add_place_does}
use Rattle.texts.proofs.places.add.Goals as goal

pub returns : goal.returns
returns g c =
    writes_by _ _ (c.write.ensures.same_reference, (λ clean inside. rw (c.get-number.ensures.value, c.signed-place.ensures.value, to_z-of_z w64 (pos c.args.place) (record { sfits = c.signed-place.ensures.fits }), c.signed-twin.ensures.value, to_z-of_z w64 (pos c.args.twin) (record { sfits = c.signed-twin.ensures.fits })) at (rw (c.params-to_sql.ensures, c.params-to_sql-2.ensures, c.params-to_sql-3.ensures, c.params-to_sql-4.ensures, c.params-to_sql-5.ensures, c.params-to_sql-6.ensures) at (c.write.ensures.runs clean inside))), c.write.ensures.survives)
    (λ count t holds. add_place_does _ _ count t holds c.args.org.now c.args.ws.now c.args.number c.args.place c.args.key.now c.args.twin)
