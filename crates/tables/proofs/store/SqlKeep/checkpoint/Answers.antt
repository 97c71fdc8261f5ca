use Rattle.sqlite.specs.Held.{state}
use Rattle.tables.proofs.KeepShown.{retold_rows, retold_keeps}
use Rattle.tables.proofs.KeepKeyed.{keyed_committed}
use Rattle.tables.proofs.store.SqlKeep.checkpoint.Goals as goal

pub returns-in-Ok-clause-lasts : goal.returns-in-Ok-clause-lasts
returns-in-Ok-clause-lasts g c = record {
  so_far = c.touch_version.ensures.ends.so_far;
  kept = rw c.of.ensures (λ clean sound.
      retold_keeps (state g.S.Store c.args.self.now.seen.value).committed (state g.S.Store c.args.self.now.conn) sound (state g.S.Store c.touch_version.new.conn) (c.in-Ok.ensures.done clean).0);
  keys = rw c.of.ensures (λ clean sound keyed.
      keyed_committed g.K.PageKey.key_of (state g.S.Store c.args.self.now.seen.value).committed (state g.S.Store c.args.self.now.conn) (state g.S.Store c.touch_version.new.conn) sound keyed _ _ (c.in-Ok.ensures.done clean).0 (λ t are. are));
  shield = c.touch_version.ensures.ends.shield;
}

pub returns-in-Ok-clause-same : goal.returns-in-Ok-clause-same
returns-in-Ok-clause-same g c = rw c.of.ensures (λ clean sound o.
    retold_rows (state g.S.Store c.args.self.now.seen.value).committed (state g.S.Store c.args.self.now.conn) sound (state g.S.Store c.touch_version.new.conn) (c.in-Ok.ensures.done clean).0 o)
