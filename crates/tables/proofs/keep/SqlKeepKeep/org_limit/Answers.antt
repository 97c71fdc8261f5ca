use Rattle.tables.proofs.Outside.{◌≤◌, subst, state, tables_of}
use Rattle.tables.specs.Inner.Steps.{limit_managed}
use Rattle.tables.proofs.Refining.{limit_refines, managed_own, managed_others, managed_keeps, managed_keyed}
use Rattle.tables.proofs.keep.SqlKeepKeep.org_limit.Goals as goal

pub returns-in-Ok-clause-lasts : goal.returns-in-Ok-clause-lasts
returns-in-Ok-clause-lasts g c = record {
  so_far = c.org_limit.ensures.ends.so_far;
  kept = rw (c.of.ensures, c.new.ensures) (λ clean sound.
      managed_keeps (state g.S.Store c.args.self.now.seen.value).committed (state g.S.Store c.args.self.now.conn) (state g.S.Store c.org_limit.new.conn) sound c.args.org.now c.in-Ok.answer _ (limit_managed c.args.org.now c.args.limit)
      (rw c.as_str.ensures.text at (c.in-Ok.ensures.done clean).0) (limit_refines (tables_of (state g.S.Store c.args.self.now.seen.value).committed) sound.store.sound c.args.org.now c.args.limit (subst (λ n. n ≤ 100_000) c.get.ensures.value c.get.ensures.most)));
  keys = rw c.of.ensures (λ clean sound.
      managed_keyed (state g.S.Store c.args.self.now.seen.value).committed (state g.S.Store c.args.self.now.conn) (state g.S.Store c.org_limit.new.conn) sound c.args.org.now c.in-Ok.answer _ (limit_managed c.args.org.now c.args.limit)
      (rw c.as_str.ensures.text at (c.in-Ok.ensures.done clean).0) (limit_refines (tables_of (state g.S.Store c.args.self.now.seen.value).committed) sound.store.sound c.args.org.now c.args.limit (subst (λ n. n ≤ 100_000) c.get.ensures.value c.get.ensures.most)) g.K.PageKey.key_of);
  shield = c.org_limit.ensures.ends.shield;
}

pub returns-in-Ok-clause-own : goal.returns-in-Ok-clause-own
returns-in-Ok-clause-own g c = rw c.of.ensures (λ clean sound.
    managed_own (state g.S.Store c.args.self.now.seen.value).committed (state g.S.Store c.args.self.now.conn) (state g.S.Store c.org_limit.new.conn) sound c.args.org.now c.in-Ok.answer _ (limit_managed c.args.org.now c.args.limit)
    (rw c.as_str.ensures.text at (c.in-Ok.ensures.done clean).0) (limit_refines (tables_of (state g.S.Store c.args.self.now.seen.value).committed) sound.store.sound c.args.org.now c.args.limit (subst (λ n. n ≤ 100_000) c.get.ensures.value c.get.ensures.most)))

pub returns-in-Ok-clause-others : goal.returns-in-Ok-clause-others
returns-in-Ok-clause-others g c = rw c.of.ensures (λ clean sound.
    managed_others (state g.S.Store c.args.self.now.seen.value).committed (state g.S.Store c.args.self.now.conn) (state g.S.Store c.org_limit.new.conn) sound c.args.org.now c.in-Ok.answer _ (limit_managed c.args.org.now c.args.limit)
    (rw c.as_str.ensures.text at (c.in-Ok.ensures.done clean).0) (limit_refines (tables_of (state g.S.Store c.args.self.now.seen.value).committed) sound.store.sound c.args.org.now c.args.limit (subst (λ n. n ≤ 100_000) c.get.ensures.value c.get.ensures.most)))
