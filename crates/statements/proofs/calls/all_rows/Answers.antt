use Rattle.sqlite.specs.Held.{state}
use Rattle.statements.proofs.Calm.{shown_calm, failed_calm, survives_query}
use Rattle.statements.proofs.calls.all_rows.Goals as goal

pub returns-in-Ok-clause-calm : goal.returns-in-Ok-clause-calm
returns-in-Ok-clause-calm g c is clean =
    (shown_calm c.args.sql.now is _ (state g.S.Store c.args.conn.now) (state g.S.Store c.query_all.new.self) _ (c.in-Ok.ensures.ok clean), tt)

pub returns-in-Ok-clause-survives : goal.returns-in-Ok-clause-survives
returns-in-Ok-clause-survives g c is =
    survives_query c.args.sql.now is _ (state g.S.Store c.args.conn.now) (state g.S.Store c.query_all.new.self) c.in-Ok.ensures.survives

pub returns-in-Err-clause-calm : goal.returns-in-Err-clause-calm
returns-in-Err-clause-calm g c is clean =
    (tt, failed_calm c.args.sql.now is _ (state g.S.Store c.args.conn.now) (state g.S.Store c.query_all.new.self) c.in-Err.error (c.in-Err.ensures.err clean))

pub returns-in-Err-clause-survives : goal.returns-in-Err-clause-survives
returns-in-Err-clause-survives g c is =
    survives_query c.args.sql.now is _ (state g.S.Store c.args.conn.now) (state g.S.Store c.query_all.new.self) c.in-Err.ensures.survives
