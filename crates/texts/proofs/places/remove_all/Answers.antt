use Rattle.statements.proofs.Transactions.{writes_by}
use Rattle.texts.proofs.PlaceWrites.{remove_places_does}
use Rattle.texts.proofs.places.remove_all.Goals as goal

pub returns : goal.returns
returns g c =
    writes_by _ _ (c.write.ensures.same_reference, (λ clean inside. rw c.get-number.ensures.value at (rw (c.params-to_sql.ensures, c.params-to_sql-2.ensures, c.params-to_sql-3.ensures) at (c.write.ensures.runs clean inside))), c.write.ensures.survives)
    (λ count t holds. remove_places_does _ _ count t holds c.args.org.now c.args.ws.now c.args.number)
