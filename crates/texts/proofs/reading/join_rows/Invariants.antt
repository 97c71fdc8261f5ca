use Rattle.std.proofs.Common.{◌≡◌}
use Rattle.sqlite.specs.Values.{bound}
use Rattle.texts.proofs.InTurn.{TakesInTurn}
use Rattle.texts.proofs.reading.join_rows.Given as goal

abbrev pub invariant-rows : goal.invariant-rows
invariant-rows g l =
    (l.rows.conn.ghost_name ≡ l.initial.rows.conn.ghost_name) × TakesInTurn g.S.Store l.sql (bound l.params) l.fn.conn l.rows.conn.now l.place l.text.items
