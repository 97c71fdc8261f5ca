use Rattle.tables.proofs.Outside.{option_copied, state}
use Rattle.tables.proofs.KeepShown.{workspaces_shown}
use Rattle.tables.proofs.keep.SqlKeepKeep.workspaces.Goals as goal

pub returns-in-Ok-clause-ok : goal.returns-in-Ok-clause-ok
returns-in-Ok-clause-ok g c clean sound =
    workspaces_shown (state g.S.Store c.args.self.now.seen.value).committed (state g.S.Store c.args.self.now.conn) sound c.args.org.now (option_copied c.args.after) c.args.prefix.now c.in-Ok.list (rw (c.as_str.ensures.text, c.name_after-after.ensures) at (c.in-Ok.ensures.unchanged clean).0)
