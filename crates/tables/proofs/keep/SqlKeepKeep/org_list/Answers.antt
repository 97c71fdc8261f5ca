use Rattle.sqlite.specs.Held.{state}
use Rattle.tables.proofs.KeepShown.{organizations_shown}
use Rattle.tables.proofs.keep.SqlKeepKeep.org_list.Goals as goal

pub returns-in-Ok-clause-ok : goal.returns-in-Ok-clause-ok
returns-in-Ok-clause-ok g c clean sound =
    organizations_shown (state g.S.Store c.args.self.now.seen.value).committed (state g.S.Store c.args.self.now.conn) sound c.in-Ok.rows (c.in-Ok.ensures.unchanged clean).0
