use Rattle.tables.proofs.Outside.{Error, rules, ◌≡◌}
use Rattle.tables.proofs.Comparing.{organization_alike, organizations_differ}
use Rattle.tables.specs.Inner.Comparing.{IsSameRecord}
use Rattle.tables.proofs.comparisons.same_organization.Goals as goal

pub returns-then-ne-clause-same : goal.returns-then-ne-clause-same
returns-then-ne-clause-same g c = organizations_differ g.S.Store Error (IsSameRecord c.args.org.now) c.args.one.now c.cap.new.conn c.args.other.now c.cap-2.new.conn

pub returns-clause-same : goal.returns-clause-same
returns-clause-same g c =
    let cap = c.in_ok-cap.cap in
    let found = c.in_ok-found.found in
    let same : cap ≡ found = search rules in
    let last = c.same_possessions.ensures in
    organization_alike g.S.Store c.args.org.now cap found same c.args.one.now c.cap.new.conn c.same_possessions.new.one c.args.other.now c.cap-2.new.conn c.same_possessions.new.other c.same_possessions.result
    c.assert_committed.ensures c.assert_committed-2.ensures c.in_ok-cap.ensures c.in_ok-found.ensures last.first.so_far last.second.so_far last.same
