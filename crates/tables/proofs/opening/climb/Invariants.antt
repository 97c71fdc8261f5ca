use Rattle.tables.proofs.Outside.{◌≡◌, false, state}
use Rattle.tables.proofs.Climbing.{ClimbsSoFar}
use Rattle.tables.proofs.opening.climb.Given as goal

-- the version that is reached, and the connection as it was where no step was taken
abbrev pub invariant-loop-at : goal.invariant-loop-at
invariant-loop-at g l = (l.conn.in_transaction ≡ false) × ClimbsSoFar l.from l.at (state g.S.Store l.fn.conn) (state g.S.Store l.conn) × (l.at ≡ l.from → l.conn ≡ l.fn.conn)
