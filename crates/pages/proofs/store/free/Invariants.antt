use Rattle.pages.proofs.Outside.{◌≡◌, ◌-◌, state}
use Rattle.pages.specs.Puts.{twin_limit}
use Rattle.pages.proofs.FreeTwins.{FreeSoFar}
use Rattle.pages.proofs.store.free.Given as goal

-- no number below was free
abbrev pub invariant-twins : goal.invariant-twins
invariant-twins g l = (l.tx.conn.ghost_name ≡ l.fn.tx.conn.ghost_name) × FreeSoFar l.key l.number (state g.S.Store l.fn.tx.conn.now) (state g.S.Store l.tx.conn.now)

abbrev pub decreases-twins : goal.decreases-twins
decreases-twins g l = twin_limit - l.number
