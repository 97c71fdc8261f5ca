use Rattle.sqlite.specs.Held.{state}
use Rattle.tables.proofs.KeepShown.{applied_own, applied_other, applied_keeps}
use Rattle.tables.proofs.KeepKeyed.{keyed_related}
use Rattle.tables.proofs.keep.SqlKeepKeep.apply.Goals as goal

pub returns-in-Ok-clause-kept : goal.returns-in-Ok-clause-kept
returns-in-Ok-clause-kept g c = rw (c.of.ensures, c.changed.ensures, c.replace-memo.ensures.value, c.as_str-org.ensures.text, c.as_str-ws.ensures.text) (λ clean sound o there due.
    applied_keeps (state g.S.Store c.args.self.now.seen.value).committed (state g.S.Store c.args.self.now.conn) sound (state g.S.Store c.change.new.conn) c.in-Ok.ensures.done.0 c.args.org.now c.args.ws.now c.args.change.now
    (rw (c.as_str-org.ensures.text, c.as_str-ws.ensures.text) at (c.in-Ok.ensures.done.1 clean).0) o c.as_str-ws.ensures.fits there due)

pub returns-in-Ok-clause-own : goal.returns-in-Ok-clause-own
returns-in-Ok-clause-own g c = rw c.of.ensures (λ clean sound o there due.
    applied_own (state g.S.Store c.args.self.now.seen.value).committed (state g.S.Store c.args.self.now.conn) sound (state g.S.Store c.change.new.conn) c.in-Ok.ensures.done.0 c.args.org.now c.args.ws.now c.args.change.now
    (rw (c.as_str-org.ensures.text, c.as_str-ws.ensures.text) at (c.in-Ok.ensures.done.1 clean).0) o there due)

pub returns-in-Ok-clause-others : goal.returns-in-Ok-clause-others
returns-in-Ok-clause-others g c = rw c.of.ensures (λ clean sound q apart.
    applied_other (state g.S.Store c.args.self.now.seen.value).committed (state g.S.Store c.args.self.now.conn) sound (state g.S.Store c.change.new.conn) c.in-Ok.ensures.done.0 c.args.org.now c.args.ws.now c.args.change.now
    (rw (c.as_str-org.ensures.text, c.as_str-ws.ensures.text) at (c.in-Ok.ensures.done.1 clean).0) q apart)

pub returns-in-Ok-clause-keyed : goal.returns-in-Ok-clause-keyed
returns-in-Ok-clause-keyed g c = rw c.of.ensures (λ clean sound keyed.
    keyed_related g.K.PageKey.key_of (state g.S.Store c.args.self.now.seen.value).committed (state g.S.Store c.args.self.now.conn) (state g.S.Store c.change.new.conn) sound keyed (c.in-Ok.ensures.keyed clean))
