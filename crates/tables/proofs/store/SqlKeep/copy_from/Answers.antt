use Rattle.sqlite.specs.Held.{state}
use Rattle.tables.proofs.KeepCopied.{copied_keeps, copied_own, copied_others}
use Rattle.tables.proofs.KeepKeyed.{keyed_related}
use Rattle.tables.proofs.store.SqlKeep.copy_from.Goals as goal

pub returns-in-Ok-clause-lasts : goal.returns-in-Ok-clause-lasts
returns-in-Ok-clause-lasts g c = record {
  so_far = c.copy.ensures.ends.so_far;
  kept = rw (c.of.ensures, c.new.ensures) (λ clean sound there.
      copied_keeps g.T.Store (state g.S.Store c.args.self.now.seen.value).committed (state g.T.Store c.args.from.now.seen.value).committed (state g.S.Store c.args.self.now.conn) (state g.S.Store c.copy.new.conn) c.args.from.now.conn c.copy.new.from sound there.1
      c.args.org.now c.in-Ok.answer (rw c.as_str.ensures.text at (c.in-Ok.ensures.done clean).0) there.0);
  keys = rw c.of.ensures (λ clean sound keyed.
      keyed_related g.K.PageKey.key_of (state g.S.Store c.args.self.now.seen.value).committed (state g.S.Store c.args.self.now.conn) (state g.S.Store c.copy.new.conn) sound keyed (c.in-Ok.ensures.keyed clean));
  shield = c.copy.ensures.ends.shield;
}

pub returns-in-Ok-clause-own : goal.returns-in-Ok-clause-own
returns-in-Ok-clause-own g c = rw c.of.ensures (λ clean sound clean_there sound_there.
    copied_own g.T.Store (state g.S.Store c.args.self.now.seen.value).committed (state g.T.Store c.args.from.now.seen.value).committed (state g.S.Store c.args.self.now.conn) (state g.S.Store c.copy.new.conn) c.args.from.now.conn c.copy.new.from sound sound_there
    c.args.org.now c.in-Ok.answer (rw c.as_str.ensures.text at (c.in-Ok.ensures.done clean).0) clean_there)

pub returns-in-Ok-clause-others : goal.returns-in-Ok-clause-others
returns-in-Ok-clause-others g c = rw c.of.ensures (λ clean sound clean_there sound_there q apart.
    copied_others g.T.Store (state g.S.Store c.args.self.now.seen.value).committed (state g.T.Store c.args.from.now.seen.value).committed (state g.S.Store c.args.self.now.conn) (state g.S.Store c.copy.new.conn) c.args.from.now.conn c.copy.new.from sound sound_there
    c.args.org.now c.in-Ok.answer (rw c.as_str.ensures.text at (c.in-Ok.ensures.done clean).0) clean_there q apart)
