use Rattle.pages.proofs.Outside.{pos, w64, to_z-of_z, state, writes_by, any_wrote, finds_by}
use Rattle.pages.specs.declared.rows.TheConstants.{REMOVE_LAST_PAGE}
use Rattle.pages.specs.Rows.{has_last}
use Rattle.pages.proofs.PageWrites.{remove_last_page_does, remove_last_page_finds}
use Rattle.pages.proofs.Referring.{spared_by, last_is_sound}
use Rattle.pages.proofs.rows.remove_last.Goals as goal

pub returns-clause-writes : goal.returns-clause-writes
returns-clause-writes g c =
    writes_by _ _ (
      c.update.ensures.same_reference,
      (λ clean inside. any_wrote _ _ _ _ c.update.result (rw (c.params-to_sql.ensures, c.params-to_sql-2.ensures, c.signed-twin.ensures.value, to_z-of_z w64 (pos c.args.twin) (record { sfits = c.signed-twin.ensures.fits })) at (c.update.ensures.runs clean inside))),
      c.update.ensures.survives,
    )
    (λ count t holds. remove_last_page_does _ _ count t holds c.args.key.now c.args.twin)

pub returns-clause-found : goal.returns-clause-found
returns-clause-found g c clean inside =
    finds_by (has_last c.args.key.now c.args.twin) _ _ REMOVE_LAST_PAGE.now _ c.update.result
    (rw (c.params-to_sql.ensures, c.params-to_sql-2.ensures, c.signed-twin.ensures.value, to_z-of_z w64 (pos c.args.twin) (record { sfits = c.signed-twin.ensures.fits })) at (c.update.ensures.runs clean inside))
    (λ count t holds. remove_last_page_finds _ _ count t holds c.args.key.now c.args.twin)

pub returns-clause-spares : goal.returns-clause-spares
returns-clause-spares g c clean inside =
    let old = state g.S.Store c.args.tx.now.conn.now in
    let new = state g.S.Store c.update.new.tx.conn.now in
    spared_by old new REMOVE_LAST_PAGE.now _ c.update.result (any_wrote old new _ _ c.update.result (c.update.ensures.runs clean inside)) (λ t holds count ran. last_is_sound old new _ t holds count ran)
