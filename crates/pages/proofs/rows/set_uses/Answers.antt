use Rattle.pages.proofs.Outside.{pos, w64, to_z-of_z, state, writes_by}
use Rattle.pages.specs.declared.rows.TheConstants.{SET_PAGE_USES}
use Rattle.pages.proofs.PageWrites.{set_page_uses_does}
use Rattle.pages.proofs.Referring.{spared_by, used_is_sound}
use Rattle.pages.proofs.rows.set_uses.Goals as goal

pub returns-clause-writes : goal.returns-clause-writes
returns-clause-writes g c =
    writes_by _ _ (c.write.ensures.same_reference, (λ clean inside. rw (c.params-to_sql.ensures, c.params-to_sql-2.ensures, c.params-to_sql-3.ensures, c.signed-twin.ensures.value, to_z-of_z w64 (pos c.args.twin) (record { sfits = c.signed-twin.ensures.fits }), c.signed-uses.ensures, to_z-of_z w64 (pos c.args.uses) (record { sfits = c.requires.uses_fit })) at (c.write.ensures.runs clean inside)), c.write.ensures.survives)
    (λ count t holds. set_page_uses_does _ _ count t holds c.args.key.now c.args.twin c.args.uses)

pub returns-clause-spares : goal.returns-clause-spares
returns-clause-spares g c clean inside =
    let old = state g.S.Store c.args.tx.now.conn.now in
    let new = state g.S.Store c.write.new.tx.conn.now in
    spared_by old new SET_PAGE_USES.now _ c.write.result (c.write.ensures.runs clean inside) (λ t holds count ran. used_is_sound old new _ t holds count ran)
