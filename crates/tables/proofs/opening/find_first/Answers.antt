use Rattle.sqlite.specs.Held.{state}
use Rattle.tables.proofs.Climbing.{first_reports}
use Rattle.tables.proofs.opening.find_first.Goals as goal

pub returns-in-Ok-clause-found : goal.returns-in-Ok-clause-found
returns-in-Ok-clause-found g c clean =
    let old = state g.S.Store c.args.conn.now in
    let new = state g.S.Store c.schema_version.new.conn in
    let all_committed = c.assert_committed.ensures in
    let read = c.in-Ok.ensures.reads.read clean in
    rw c.found_in.ensures (first_reports c.in-Ok.reported old new c.requires.there all_committed read.1.0 (c.in-Ok.ensures.reported clean))
