use Rattle.tables.proofs.Outside.{refl, state, needed_of}
use Rattle.tables.proofs.KeepShown.{unit_reported, unit_keeps}
use Rattle.tables.proofs.keep.SqlKeepKeep.unit.Goals as goal

pub returns-in-Ok-clause-unchanged : goal.returns-in-Ok-clause-unchanged
returns-in-Ok-clause-unchanged g c = record {
  so_far = c.unit.ensures.ends.so_far;
  shield = c.unit.ensures.ends.shield;
  kept = λ clean sound.
      unit_keeps (state g.S.Store c.args.self.now.seen.value).committed (state g.S.Store c.args.self.now.conn) sound (state g.S.Store c.unit.new.conn) c.args.org.now c.args.ws.now c.args.act.now (needed_of c.needs-needs.result) c.needs-needs.ensures c.in-Ok.unit_read
      (rw (c.known-known.ensures, c.as_str-org.ensures.text, c.as_str-ws.ensures.text) at (c.in-Ok.ensures.unchanged clean).0) (c.in-Ok.ensures.unchanged clean).1 _ (rw (c.as_str-org.ensures.text, c.as_str-ws.ensures.text) at c.cache_count.ensures.kept)
      _ (rw (c.as_str-org.ensures.text, c.as_str-ws.ensures.text) at c.note.ensures);
  keys = λ clean sound keyed. keyed;
  same = λ clean o. refl;
}

pub returns-in-Ok-clause-ok : goal.returns-in-Ok-clause-ok
returns-in-Ok-clause-ok g c clean sound =
    unit_reported (state g.S.Store c.args.self.now.seen.value).committed (state g.S.Store c.args.self.now.conn) sound c.args.org.now c.args.ws.now c.args.act.now (needed_of c.needs-needs.result) c.needs-needs.ensures c.in-Ok.unit_read (rw (c.known-known.ensures, c.as_str-org.ensures.text, c.as_str-ws.ensures.text) at (c.in-Ok.ensures.unchanged clean).0)
