use Rattle.sqlite.specs.Held.{state}
use Rattle.tables.proofs.Climbing.{later_reports}
use Rattle.tables.proofs.opening.find_later.Goals as goal

pub returns-in-Ok-clause-found : goal.returns-in-Ok-clause-found
returns-in-Ok-clause-found g c clean =
    let old = state g.S.Store c.args.conn.now in
    let new = state g.S.Store c.edition.new.conn in
    let all_committed = c.assert_committed.ensures in
    let read = c.in-Ok.ensures.reads.read clean in
    rw c.found_in.ensures (later_reports c.in-Ok.reported old new all_committed read.1.0 (c.in-Ok.ensures.reported clean) c.args.schema_version c.requires.later c.requires.there)
