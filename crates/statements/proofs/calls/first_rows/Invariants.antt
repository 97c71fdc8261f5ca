use Rattle.statements.proofs.Outside.{◌≡◌, bound}
use Rattle.statements.proofs.Taking.{Takes}
use Rattle.statements.proofs.calls.first_rows.Given as goal

abbrev pub invariant-rows : goal.invariant-rows
invariant-rows g l =
    (l.rows.conn.ghost_name ≡ l.initial.rows.conn.ghost_name) × Takes g.S.Store l.sql (bound l.params) l.fn.conn l.rows.conn.now l.first.items l.taken
