use Rattle.tables.proofs.Outside.{[], state}
use Rattle.tables.proofs.Shut.{unchanged_keeps, not_run_keeps}
use Rattle.tables.proofs.points.assert_open.Goals.{in-Ok, in-Err}
use Rattle.tables.proofs.points.assert_open.Goals as goal

pub returns-clause-same : goal.returns-clause-same
returns-clause-same g c clean = elim c.match-prepare.branch [
  | in-Ok w ↦ rw w.result-is (w.in-Ok.ensures.ok clean).1
  | in-Err w ↦ rw w.result-is tt
]

pub returns-clause-kept : goal.returns-clause-kept
returns-clause-kept g c clean = elim c.match-prepare.branch [
  | in-Ok w ↦ unchanged_keeps (state g.S.Store c.args.conn.now) (state g.S.Store c.prepare.new.self) (w.in-Ok.ensures.ok clean).1
  | in-Err w ↦ not_run_keeps (state g.S.Store c.args.conn.now) (state g.S.Store c.prepare.new.self) _ [] _ (w.in-Err.ensures.err clean [])
]
