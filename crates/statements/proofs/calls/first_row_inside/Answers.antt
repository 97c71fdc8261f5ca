use Rattle.sqlite.specs.Held.{state}
use Rattle.statements.proofs.Calm.{row_calm, inside_error_calm, inside_none_shown, inside_none_calm}
use Rattle.statements.proofs.calls.first_row_inside.Goals as goal

pub returns-in-Ok-clause-calm : goal.returns-in-Ok-clause-calm
returns-in-Ok-clause-calm g c is clean =
    (row_calm c.args.sql.now is _ (state g.S.Store c.args.tx.now.conn.now) (state g.S.Store c.query_row.new.self.conn.now) c.in-Ok.row (c.in-Ok.ensures.row clean), tt)

pub returns-in-Err-QueryReturnedNoRows-clause-row : goal.returns-in-Err-QueryReturnedNoRows-clause-row
returns-in-Err-QueryReturnedNoRows-clause-row g c is clean =
    inside_none_shown c.args.sql.now is _ (state g.S.Store c.args.tx.now.conn.now) (state g.S.Store c.query_row.new.self.conn.now)
    (rw c.in-Err-QueryReturnedNoRows.field-0-is at (c.in-Err-QueryReturnedNoRows.ensures.row clean))

pub returns-in-Err-QueryReturnedNoRows-clause-calm : goal.returns-in-Err-QueryReturnedNoRows-clause-calm
returns-in-Err-QueryReturnedNoRows-clause-calm g c is clean = (
  inside_none_calm c.args.sql.now is _ (state g.S.Store c.args.tx.now.conn.now) (state g.S.Store c.query_row.new.self.conn.now)
      (rw c.in-Err-QueryReturnedNoRows.field-0-is at (c.in-Err-QueryReturnedNoRows.ensures.row clean)),
  tt,
)

pub returns-in-Err-clause-calm : goal.returns-in-Err-clause-calm
returns-in-Err-clause-calm g c is clean =
    (tt, inside_error_calm c.args.sql.now is _ (state g.S.Store c.args.tx.now.conn.now) (state g.S.Store c.query_row.new.self.conn.now) c.in-Err.error (c.in-Err.ensures.row clean))
