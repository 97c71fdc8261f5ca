use Rattle.pages.proofs.Outside.{pos, w64, to_z-of_z, writes_by}
use Rattle.pages.proofs.PageWrites.{add_page_does}
use Rattle.pages.proofs.rows.add.Goals as goal

pub returns : goal.returns
returns g c =
    writes_by _ _ (c.write.ensures.same_reference, (λ clean inside. rw (c.params-to_sql.ensures, c.params-to_sql-2.ensures, c.params-to_sql-3.ensures, c.signed-twin.ensures.value, to_z-of_z w64 (pos c.args.twin) (record { sfits = c.signed-twin.ensures.fits })) at (c.write.ensures.runs clean inside)), c.write.ensures.survives)
    (λ count t holds. add_page_does _ _ count t holds c.args.key.now c.args.twin c.args.bytes.now)
