use Rattle.tables.proofs.Outside.{[], ◌∙◌, ap, state, SqliteFailure}
use Rattle.tables.proofs.Shut.{unchanged_keeps, not_run_keeps, closed_shut}
use Rattle.tables.proofs.points.is_shut.Goals.{in-Ok, in-Err-SqliteFailure-Closed, in-Err+in-Err}
use Rattle.tables.proofs.points.is_shut.Goals as goal

pub returns-clause-reported : goal.returns-clause-reported
returns-clause-reported g c clean = elim c.match-prepare.branch [
  | in-Ok w ↦ rw w.result-is (w.in-Ok.ensures.ok clean).1.0.was_open
  | in-Err-SqliteFailure-Closed w ↦ rw w.result-is (closed_shut (state g.S.Store c.args.conn.now) (state g.S.Store c.prepare.new.self) _ [] _ (w.in-Err-SqliteFailure-Closed.field-0-is ∙ ap SqliteFailure w.in-Err-SqliteFailure-Closed.field-0-0-is) (w.in-Err-SqliteFailure-Closed.ensures.err clean []))
  | in-Err+in-Err w ↦ rw w.result-is tt
]

pub returns-clause-kept : goal.returns-clause-kept
returns-clause-kept g c clean = elim c.match-prepare.branch [
  | in-Ok w ↦ unchanged_keeps (state g.S.Store c.args.conn.now) (state g.S.Store c.prepare.new.self) (w.in-Ok.ensures.ok clean).1
  | in-Err-SqliteFailure-Closed w ↦ not_run_keeps (state g.S.Store c.args.conn.now) (state g.S.Store c.prepare.new.self) _ [] _ (w.in-Err-SqliteFailure-Closed.ensures.err clean [])
  | in-Err+in-Err w ↦ not_run_keeps (state g.S.Store c.args.conn.now) (state g.S.Store c.prepare.new.self) _ [] _ (w.in-Err.ensures.err clean [])
]
