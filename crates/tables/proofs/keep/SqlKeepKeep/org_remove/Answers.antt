use Rattle.sqlite.specs.Held.{state}
use Rattle.tables.proofs.KeepRemoved.{removed_keeps, removed_own, removed_others, removed_keyed}
use Rattle.tables.proofs.keep.SqlKeepKeep.org_remove.Goals as goal

pub returns-in-Ok-clause-lasts : goal.returns-in-Ok-clause-lasts
returns-in-Ok-clause-lasts g c = record {
  so_far = c.org_remove.ensures.ends.so_far;
  kept = rw (c.of.ensures, c.new.ensures) (λ clean sound.
      removed_keeps (state g.S.Store c.args.self.now.seen.value).committed (state g.S.Store c.args.self.now.conn) (state g.S.Store c.org_remove.new.conn) sound c.args.is_forced c.args.org.now c.in-Ok.answer
      (rw c.as_str.ensures.text at (c.in-Ok.ensures.done clean).0));
  keys = rw c.of.ensures (λ clean sound.
      removed_keyed (state g.S.Store c.args.self.now.seen.value).committed (state g.S.Store c.args.self.now.conn) (state g.S.Store c.org_remove.new.conn) sound c.args.is_forced c.args.org.now c.in-Ok.answer
      (rw c.as_str.ensures.text at (c.in-Ok.ensures.done clean).0) g.K.PageKey.key_of);
  shield = c.org_remove.ensures.ends.shield;
}

pub returns-in-Ok-clause-own : goal.returns-in-Ok-clause-own
returns-in-Ok-clause-own g c = rw c.of.ensures (λ clean sound.
    removed_own (state g.S.Store c.args.self.now.seen.value).committed (state g.S.Store c.args.self.now.conn) (state g.S.Store c.org_remove.new.conn) sound c.args.is_forced c.args.org.now c.in-Ok.answer
    (rw c.as_str.ensures.text at (c.in-Ok.ensures.done clean).0))

pub returns-in-Ok-clause-others : goal.returns-in-Ok-clause-others
returns-in-Ok-clause-others g c = rw c.of.ensures (λ clean sound q apart.
    removed_others (state g.S.Store c.args.self.now.seen.value).committed (state g.S.Store c.args.self.now.conn) (state g.S.Store c.org_remove.new.conn) sound c.args.is_forced c.args.org.now c.in-Ok.answer
    (rw c.as_str.ensures.text at (c.in-Ok.ensures.done clean).0) q apart)
