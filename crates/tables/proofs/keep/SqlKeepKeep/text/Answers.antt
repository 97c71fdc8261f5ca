use Rattle.sqlite.specs.Held.{state}
use Rattle.tables.proofs.KeepShown.{text_reported}
use Rattle.tables.proofs.keep.SqlKeepKeep.text.Goals as goal

pub returns-in-Ok-clause-ok : goal.returns-in-Ok-clause-ok
returns-in-Ok-clause-ok g c clean sound =
    text_reported (state g.S.Store c.args.self.now.seen.value).committed (state g.S.Store c.args.self.now.conn) sound c.args.org.now c.args.ws.now c.args.n c.in-Ok.text (rw (c.known-known.ensures, c.as_str-org.ensures.text, c.as_str-ws.ensures.text) at (c.in-Ok.ensures.unchanged clean).0)
