use Rattle.sqlite.specs.Held.{state}
use Rattle.tables.proofs.OwnTables.{tables_reported}
use Rattle.tables.proofs.points.other_tables.Goals as goal

pub returns-clause-reported : goal.returns-clause-reported
returns-clause-reported g c clean =
    tables_reported (state g.S.Store c.args.conn.now) (state g.S.Store c.assert_open.new.conn) c.schema.result.now c.in-Ok.names c.assert_committed.ensures c.schema.ensures.value c.in-Ok.ensures.none c.in-Ok.ensures.named c.in-Ok.ensures.every (c.in_ok-assert_open.ensures.same clean)
