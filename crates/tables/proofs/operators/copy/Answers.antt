use Rattle.tables.proofs.Outside.{rules, ◌≡◌, true, false, is_some, None, state, Exists, Absent, none_if}
use Rattle.tables.proofs.KeepCopied.{is_absent, is_there, copies_none, copies_one}
use Rattle.tables.proofs.KeepKeyed.{keyed_unchanged, keyed_behind}
use Rattle.tables.proofs.operators.copy.Goals as goal

pub returns-in_default-clause-done : goal.returns-in_default-clause-done
returns-in_default-clause-done g c clean =
    let org = c.args.org.now in
    let found = c.in_ok-found.found in
    let there = c.in_ok-there.there in
    let a = state g.S.Store c.args.conn.now in
    let b = state g.S.Store c.cap-2.new.conn in
    let reported = c.in_ok-there.ensures.read clean in
    let none : found ≡ None = search rules in
    (copies_none g.T.Store org found there a b c.args.from.now c.cap.new.conn c.assert_committed.ensures c.assert_committed-2.ensures (λ clean. let read = c.in_ok-found.ensures.read clean in (read.0, read.1.0)) reported.0 reported.1.0 Absent (is_absent org found there none), tt)

pub returns-then-is_some-clause-done : goal.returns-then-is_some-clause-done
returns-then-is_some-clause-done g c clean =
    let org = c.args.org.now in
    let found = c.in_ok-found.found in
    let there = c.in_ok-there.there in
    let a = state g.S.Store c.args.conn.now in
    let b = state g.S.Store c.cap-2.new.conn in
    let reported = c.in_ok-there.ensures.read clean in
    let some : is_some there ≡ true = search rules in
    (copies_none g.T.Store org found there a b c.args.from.now c.cap.new.conn c.assert_committed.ensures c.assert_committed-2.ensures (λ clean. let read = c.in_ok-found.ensures.read clean in (read.0, read.1.0)) reported.0 reported.1.0 Exists (is_there org found there c.in-Some.cap c.in-Some.is some), tt)

pub returns-clause-done : goal.returns-clause-done
returns-clause-done g c clean =
    let org = c.args.org.now in
    let found = c.in_ok-found.found in
    let there = c.in_ok-there.there in
    let a = state g.S.Store c.args.conn.now in
    let b = state g.S.Store c.cap-2.new.conn in
    let d = state g.S.Store c.copy_organization.new.conn in
    let reported = c.in_ok-there.ensures.read (c.copy_organization.ensures.ends.so_far clean) in
    let none : is_some there ≡ false = search rules in (
      copies_one g.T.Store org found there a b c.args.from.now c.cap.new.conn c.assert_committed.ensures c.assert_committed-2.ensures (λ clean. let read = c.in_ok-found.ensures.read clean in (read.0, read.1.0)) reported.0 reported.1.0
          c.in-Some.cap d c.copy_organization.new.from c.in-Some.is (none_if there none) c.copy_organization.ensures.unchanged.so_far (c.in_ok-copy_organization.ensures.done clean).0,
      tt,
    )

pub returns-in_default-clause-keyed : goal.returns-in_default-clause-keyed
returns-in_default-clause-keyed g c clean = keyed_unchanged g.K.PageKey.key_of (state g.S.Store c.args.conn.now) (state g.S.Store c.cap-2.new.conn) (c.in_ok-there.ensures.read clean).1.0

pub returns-then-is_some-clause-keyed : goal.returns-then-is_some-clause-keyed
returns-then-is_some-clause-keyed g c clean = keyed_unchanged g.K.PageKey.key_of (state g.S.Store c.args.conn.now) (state g.S.Store c.cap-2.new.conn) (c.in_ok-there.ensures.read clean).1.0

pub returns-clause-keyed : goal.returns-clause-keyed
returns-clause-keyed g c clean =
    let reported = c.in_ok-there.ensures.read (c.copy_organization.ensures.ends.so_far clean) in
    keyed_behind g.K.PageKey.key_of (state g.S.Store c.args.conn.now) (state g.S.Store c.cap-2.new.conn) reported.1.0 (state g.S.Store c.copy_organization.new.conn) (c.in_ok-copy_organization.ensures.keyed clean)
