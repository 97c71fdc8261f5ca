use Rattle.tables.proofs.Outside.{rules, ◌≡◌, true, false, is_none, state, one_query}
use Rattle.tables.proofs.KeepRemoved.{all_read, leaves_absent, leaves_kept, leaves_done}
use Rattle.tables.proofs.operators.org_remove.Goals as goal

pub returns-then-is_none-clause-done : goal.returns-then-is_none-clause-done
returns-then-is_none-clause-done g c clean =
    let a = state g.S.Store c.args.conn.now in
    let b = state g.S.Store c.cap.new.conn in
    let read = c.in_ok-cap.ensures.read clean in
    let none : is_none c.in_ok-cap.cap ≡ true = search rules in
    (leaves_absent c.args.is_forced c.args.org.now a b c.assert_committed.ensures read.1.0.0.was_open (one_query a b read.1.0) c.in_ok-cap.cap none read.0, tt)

pub returns-then-branch-clause-done : goal.returns-then-branch-clause-done
returns-then-branch-clause-done g c clean =
    let is_forced = c.args.is_forced in
    let org = c.args.org.now in
    let cap = c.in_ok-cap.cap in
    let all = c.in_ok-all.all in
    let is_kept = c.in_ok-is_kept_back.field-0 in
    let a = state g.S.Store c.args.conn.now in
    let b = state g.S.Store c.is_kept_back.new.conn in
    let kept = rw c.as_slice.ensures at c.in_ok-is_kept_back.ensures.unchanged in
    let read = c.in_ok-cap.ensures.read (c.in_ok-all.ensures.so_far (kept.so_far clean)) in
    let seen = (all_read g.S.Store is_forced org c.args.conn.now c.cap.new.conn c.read_possessions.new.conn c.is_kept_back.new.conn cap all is_kept c.in_ok-cap.ensures c.in_ok-all.ensures kept).sees clean in
    let some : is_none cap ≡ false = search rules in
    let is : is_kept ≡ true = search rules in
    (leaves_kept is_forced org a b c.assert_committed.ensures read.1.0.0.was_open seen.1.0 cap some all.names all.tokens is_kept seen.0 is, tt)

pub returns-clause-done : goal.returns-clause-done
returns-clause-done g c clean =
    let is_forced = c.args.is_forced in
    let org = c.args.org.now in
    let cap = c.in_ok-cap.cap in
    let all = c.in_ok-all.all in
    let is_kept = c.in_ok-is_kept_back.field-0 in
    let a = state g.S.Store c.args.conn.now in
    let b = state g.S.Store c.is_kept_back.new.conn in
    let d = state g.S.Store c.remove_organization.new.conn in
    let before = c.remove_organization.ensures.ends.so_far clean in
    let kept = rw c.as_slice.ensures at c.in_ok-is_kept_back.ensures.unchanged in
    let read = c.in_ok-cap.ensures.read (c.in_ok-all.ensures.so_far (kept.so_far before)) in
    let seen = (all_read g.S.Store is_forced org c.args.conn.now c.cap.new.conn c.read_possessions.new.conn c.is_kept_back.new.conn cap all is_kept c.in_ok-cap.ensures c.in_ok-all.ensures kept).sees before in
    let some : is_none cap ≡ false = search rules in
    let is : is_kept ≡ false = search rules in
    (leaves_done is_forced org a b c.assert_committed.ensures read.1.0.0.was_open seen.1.0 cap some all.names all.tokens is_kept seen.0 d is (rw (c.as_slice-2.ensures, c.as_slice-3.ensures) at (c.in_ok-remove_organization.ensures.done clean).0), tt)
