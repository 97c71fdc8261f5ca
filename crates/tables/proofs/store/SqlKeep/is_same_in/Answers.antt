use Rattle.tables.proofs.Outside.{Error, state}
use Rattle.tables.proofs.Comparing.{records_alike}
use Rattle.tables.proofs.store.SqlKeep.is_same_in.Goals as goal

pub returns-in-Ok-clause-same : goal.returns-in-Ok-clause-same
returns-in-Ok-clause-same g c clean sound there good is =
    records_alike g.S.Store Error c.args.org.now (state g.S.Store c.args.self.now.seen.value).committed (state g.S.Store c.args.other.now.seen.value).committed _ _
    c.args.self.now.conn c.same_organization.new.one c.args.other.now.conn c.same_organization.new.other c.in-Ok.same (rw c.as_str.ensures.text at c.in-Ok.ensures.same) clean there is sound good
