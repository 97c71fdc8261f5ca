use Rattle.tables.proofs.Outside.{arith, state}
use Rattle.tables.proofs.KeepShown.{versions_shown, no_versions_shown}
use Rattle.tables.proofs.keep.SqlKeepKeep.versions.Goals as goal

pub returns-in-Ok-clause-ok : goal.returns-in-Ok-clause-ok
returns-in-Ok-clause-ok g c clean sound =
    versions_shown (state g.S.Store c.args.self.now.seen.value).committed (state g.S.Store c.args.self.now.conn) sound c.args.org.now c.args.ws.now c.args.after c.in-Ok.list (rw (c.as_str.ensures.text, c.as_str-2.ensures.text) at (c.in-Ok.ensures.unchanged clean).0)

pub returns-then-after-clause-ok : goal.returns-then-after-clause-ok
returns-then-after-clause-ok g c clean sound =
    no_versions_shown (state g.S.Store c.args.self.now.seen.value).committed (state g.S.Store c.args.self.now.conn) sound c.args.org.now c.args.ws.now c.args.after c.new.result (omega (arith, c.if-after.true)) c.new.ensures
