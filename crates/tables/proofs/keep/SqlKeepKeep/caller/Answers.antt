use Rattle.tables.proofs.Outside.{refl, state}
use Rattle.tables.proofs.KeepShown.{asker_reported, asker_known, askers_stay, asker_keeps}
use Rattle.tables.proofs.keep.SqlKeepKeep.caller.Goals as goal

pub returns-in-Some-clause-ok : goal.returns-in-Some-clause-ok
returns-in-Some-clause-ok g c clean sound =
    asker_known (state g.S.Store c.args.self.now.seen.value).committed (state g.S.Store c.args.self.now.conn) sound c.args.org.now c.args.digest.now c.in-Some.asker (rw c.as_str-org.ensures.text at c.in-Some.ensures.known)

pub returns-in-Some-clause-unchanged : goal.returns-in-Some-clause-unchanged
returns-in-Some-clause-unchanged g c = record {
  so_far = λ clean. clean;
  shield = λ shielded. shielded;
  kept = λ clean sound. askers_stay (state g.S.Store c.args.self.now.seen.value).committed (state g.S.Store c.args.self.now.conn) sound _ c.known.ensures.kept;
  keys = λ clean sound keyed. keyed;
  same = λ clean o. refl;
}

pub returns-in-Ok-clause-unchanged : goal.returns-in-Ok-clause-unchanged
returns-in-Ok-clause-unchanged g c = record {
  so_far = c.caller.ensures.ends.so_far;
  shield = c.caller.ensures.ends.shield;
  kept = λ clean sound.
      asker_keeps (state g.S.Store c.args.self.now.seen.value).committed (state g.S.Store c.args.self.now.conn) sound (state g.S.Store c.caller.new.conn) c.args.org.now c.args.digest.now c.in-Ok.asker
      (rw (c.as_str-org.ensures.text, c.as_slice.ensures) at (c.in-Ok.ensures.unchanged clean).0) (c.in-Ok.ensures.unchanged clean).1 _ _ c.known.ensures.kept (rw c.as_str-org.ensures.text at c.cache_asker.ensures);
  keys = λ clean sound keyed. keyed;
  same = λ clean o. refl;
}

pub returns-in-Ok-clause-ok : goal.returns-in-Ok-clause-ok
returns-in-Ok-clause-ok g c clean sound =
    asker_reported (state g.S.Store c.args.self.now.seen.value).committed (state g.S.Store c.args.self.now.conn) sound c.args.org.now c.args.digest.now c.in-Ok.asker (rw (c.as_str-org.ensures.text, c.as_slice.ensures) at (c.in-Ok.ensures.unchanged clean).0)
