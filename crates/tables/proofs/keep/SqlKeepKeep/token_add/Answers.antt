use Rattle.tables.proofs.Outside.{state, tables_of}
use Rattle.tables.specs.Inner.Steps.{token_managed}
use Rattle.tables.proofs.Refining.{token_refines, managed_own, managed_others, managed_keeps, managed_keyed}
use Rattle.tables.proofs.keep.SqlKeepKeep.token_add.Goals as goal

pub returns-in-Ok-clause-lasts : goal.returns-in-Ok-clause-lasts
returns-in-Ok-clause-lasts g c = record {
  so_far = c.token_add.ensures.ends.so_far;
  kept = rw (c.of.ensures, c.new.ensures) (λ clean sound.
      managed_keeps (state g.S.Store c.args.self.now.seen.value).committed (state g.S.Store c.args.self.now.conn) (state g.S.Store c.token_add.new.conn) sound c.args.org.now c.in-Ok.answer _ (token_managed c.args.org.now c.args.name.now c.args.digest.now c.args.role c.args.bounds.now)
      (rw (c.as_str-org.ensures.text, c.as_str-name.ensures.text, c.as_slice-digest.ensures) at (c.in-Ok.ensures.done clean).0) (token_refines (tables_of (state g.S.Store c.args.self.now.seen.value).committed) sound.store.sound c.args.org.now c.args.name.now c.args.digest.now c.args.role c.args.bounds.now c.as_str-name.ensures.fits c.told-digest c.assert_bounds.ensures.until c.assert_bounds.ensures.prefix));
  keys = rw c.of.ensures (λ clean sound.
      managed_keyed (state g.S.Store c.args.self.now.seen.value).committed (state g.S.Store c.args.self.now.conn) (state g.S.Store c.token_add.new.conn) sound c.args.org.now c.in-Ok.answer _ (token_managed c.args.org.now c.args.name.now c.args.digest.now c.args.role c.args.bounds.now)
      (rw (c.as_str-org.ensures.text, c.as_str-name.ensures.text, c.as_slice-digest.ensures) at (c.in-Ok.ensures.done clean).0) (token_refines (tables_of (state g.S.Store c.args.self.now.seen.value).committed) sound.store.sound c.args.org.now c.args.name.now c.args.digest.now c.args.role c.args.bounds.now c.as_str-name.ensures.fits c.told-digest c.assert_bounds.ensures.until c.assert_bounds.ensures.prefix) g.K.PageKey.key_of);
  shield = c.token_add.ensures.ends.shield;
}

pub returns-in-Ok-clause-own : goal.returns-in-Ok-clause-own
returns-in-Ok-clause-own g c = rw c.of.ensures (λ clean sound.
    managed_own (state g.S.Store c.args.self.now.seen.value).committed (state g.S.Store c.args.self.now.conn) (state g.S.Store c.token_add.new.conn) sound c.args.org.now c.in-Ok.answer _ (token_managed c.args.org.now c.args.name.now c.args.digest.now c.args.role c.args.bounds.now)
    (rw (c.as_str-org.ensures.text, c.as_str-name.ensures.text, c.as_slice-digest.ensures) at (c.in-Ok.ensures.done clean).0) (token_refines (tables_of (state g.S.Store c.args.self.now.seen.value).committed) sound.store.sound c.args.org.now c.args.name.now c.args.digest.now c.args.role c.args.bounds.now c.as_str-name.ensures.fits c.told-digest c.assert_bounds.ensures.until c.assert_bounds.ensures.prefix))

pub returns-in-Ok-clause-others : goal.returns-in-Ok-clause-others
returns-in-Ok-clause-others g c = rw c.of.ensures (λ clean sound.
    managed_others (state g.S.Store c.args.self.now.seen.value).committed (state g.S.Store c.args.self.now.conn) (state g.S.Store c.token_add.new.conn) sound c.args.org.now c.in-Ok.answer _ (token_managed c.args.org.now c.args.name.now c.args.digest.now c.args.role c.args.bounds.now)
    (rw (c.as_str-org.ensures.text, c.as_str-name.ensures.text, c.as_slice-digest.ensures) at (c.in-Ok.ensures.done clean).0) (token_refines (tables_of (state g.S.Store c.args.self.now.seen.value).committed) sound.store.sound c.args.org.now c.args.name.now c.args.digest.now c.args.role c.args.bounds.now c.as_str-name.ensures.fits c.told-digest c.assert_bounds.ensures.until c.assert_bounds.ensures.prefix))
