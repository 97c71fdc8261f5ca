use Rattle.sqlite.specs.Held.{state}
use Rattle.tables.proofs.KeepShown.{tokens_shown}
use Rattle.tables.proofs.keep.SqlKeepKeep.token_list.Goals as goal

pub returns-in-Ok-clause-ok : goal.returns-in-Ok-clause-ok
returns-in-Ok-clause-ok g c clean sound =
    tokens_shown (state g.S.Store c.args.self.now.seen.value).committed (state g.S.Store c.args.self.now.conn) sound c.args.org.now c.in-Ok.answer (rw c.as_str.ensures.text at (c.in-Ok.ensures.unchanged clean).0)
