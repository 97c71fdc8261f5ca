use Rattle.tables.proofs.Outside.{ap, ◌∙◌, state, SCHEMA_VERSION}
use Rattle.tables.proofs.There.{one_there}
use Rattle.tables.proofs.Climbing.{climbed_by, reported_of, reported_as, kept_beside, gives_back}
use Rattle.tables.proofs.opening.ready.Goals as goal

pub returns-in-Ok-climb-clause-reported : goal.returns-in-Ok-climb-clause-reported
returns-in-Ok-climb-clause-reported g c clean n there =
    let old = state g.S.Store c.args.conn.now in
    let mid = state g.S.Store c.find.new.conn in
    reported_as c.in-Ok-Version.schema_version n old mid (reported_of c.in-Ok-Version.field-0 c.in-Ok-Version.schema_version old mid c.in-Ok-Version.field-0-is (c.in-Ok-Version.ensures.found (c.climb.ensures.ends.so_far clean))) there

pub returns-in-Ok-climb-clause-stays : goal.returns-in-Ok-climb-clause-stays
returns-in-Ok-climb-clause-stays g c clean there =
    let old = state g.S.Store c.args.conn.now in
    let mid = state g.S.Store c.find.new.conn in
    let reported = reported_of c.in-Ok-Version.field-0 c.in-Ok-Version.schema_version old mid c.in-Ok-Version.field-0-is (c.in-Ok-Version.ensures.found (c.climb.ensures.ends.so_far clean)) in
    let newest = one_there c.in-Ok-Version.schema_version SCHEMA_VERSION old.now.schema reported.there there in
    ap (λ h. (state g.S.Store h).committed) (c.climb.ensures.newest newest).0 ∙ reported.same

pub returns-in-Ok-climb-clause-climbed : goal.returns-in-Ok-climb-clause-climbed
returns-in-Ok-climb-clause-climbed g c clean =
    let old = state g.S.Store c.args.conn.now in
    let mid = state g.S.Store c.find.new.conn in
    let reported = reported_of c.in-Ok-Version.field-0 c.in-Ok-Version.schema_version old mid c.in-Ok-Version.field-0-is (c.in-Ok-Version.ensures.found (c.climb.ensures.ends.so_far clean)) in
    climbed_by c.in-Ok-Version.schema_version old mid (state g.S.Store c.climb.new.conn) reported (c.in-Ok-climb.ensures.climbed clean).0

pub returns-in-Ok-climb-clause-beside : goal.returns-in-Ok-climb-clause-beside
returns-in-Ok-climb-clause-beside g c clean =
    let old = state g.S.Store c.args.conn.now in
    let mid = state g.S.Store c.find.new.conn in
    let reported = reported_of c.in-Ok-Version.field-0 c.in-Ok-Version.schema_version old mid c.in-Ok-Version.field-0-is (c.in-Ok-Version.ensures.found (c.climb.ensures.ends.so_far clean)) in
    kept_beside c.in-Ok-Version.schema_version old mid (state g.S.Store c.climb.new.conn) reported (c.in-Ok-climb.ensures.climbed clean).0

pub returns-in-Err-climb-clause-err : goal.returns-in-Err-climb-clause-err
returns-in-Err-climb-clause-err g c clean =
    let old = state g.S.Store c.args.conn.now in
    let mid = state g.S.Store c.find.new.conn in
    let reported = reported_of c.in-Ok-Version.field-0 c.in-Ok-Version.schema_version old mid c.in-Ok-Version.field-0-is (c.in-Ok-Version.ensures.found (c.climb.ensures.ends.so_far clean)) in
    gives_back c.in-Ok-Version.schema_version old mid (state g.S.Store c.climb.new.conn) reported (c.in-Err-climb.ensures.climbed clean).1
