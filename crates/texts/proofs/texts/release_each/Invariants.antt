use Rattle.texts.proofs.Outside.{◌≡◌, state}
use Rattle.texts.specs.Inner.Calls.{released_by, WereReleased}
use Rattle.texts.proofs.Many.{WritesSoFar}
use Rattle.texts.proofs.texts.release_each.Given as goal

-- the pages that the rows so far name are released
abbrev pub invariant-places : goal.invariant-places
invariant-places g l =
    (l.tx.conn.ghost_name ≡ l.fn.tx.conn.ghost_name) × WritesSoFar (released_by l.rows l.place) (WereReleased l.rows l.place) (state g.S.Store l.fn.tx.conn.now) (state g.S.Store l.tx.conn.now)
