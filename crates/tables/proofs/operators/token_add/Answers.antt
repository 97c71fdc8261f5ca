use Rattle.tables.proofs.Outside.{rules, ◌≡◌, true, false, cond, is_none, sym, subst, Database, state, effect, Done, Exists, Absent, token_added, Holds, one_query, unchanged_then}
use Rattle.tables.specs.Inner.Steps.{token_managed}
use Rattle.tables.proofs.KeepManaged.{manages_none, manages_one, token_nowhere, token_there}
use Rattle.tables.proofs.operators.token_add.Goals as goal

pub returns-then-is_none-clause-done : goal.returns-then-is_none-clause-done
returns-then-is_none-clause-done g c clean =
    let org = c.args.org.now in
    let name = c.args.name.now in
    let digest = c.args.digest.now in
    let role = c.args.role in
    let bounds = c.args.bounds.now in
    let a = state g.S.Store c.args.conn.now in
    let b = state g.S.Store c.cap.new.conn in
    let cap = c.in_ok-cap.ensures.read clean in
    let nothing : is_none c.in_ok-cap.cap ≡ true = search rules in (
      manages_none (token_managed org name digest role bounds) a b b c.assert_committed.ensures Absent cap.1.0.0.was_open cap.1.0.0.is_open (one_query a b cap.1.0)
          (λ t held. token_nowhere org name digest role bounds t c.in_ok-cap.cap nothing (cap.0 t held)),
      tt,
    )

pub returns-then-branch-clause-done : goal.returns-then-branch-clause-done
returns-then-branch-clause-done g c clean =
    let h = c.args.conn.now in
    let org = c.args.org.now in
    let name = c.args.name.now in
    let digest = c.args.digest.now in
    let role = c.args.role in
    let bounds = c.args.bounds.now in
    let a = state g.S.Store h in
    let b = state g.S.Store c.cap.new.conn in
    let d = state g.S.Store c.is_taken.new.conn in
    let all_committed = c.assert_committed.ensures in
    let cap = c.in_ok-cap.ensures.read (c.is_taken.ensures.so_far clean) in
    let taken = c.in_ok-is_taken.ensures.sees clean in
    let there : is_none c.in_ok-cap.cap ≡ false = search rules in (
      manages_none (token_managed org name digest role bounds) a d d all_committed Exists cap.1.0.0.was_open (taken.1.0.is_open cap.1.0.0.is_open) (unchanged_then a b d (one_query a b cap.1.0) taken.1.0)
          (λ t held. subst (λ x. token_managed org name digest role bounds t ≡ cond x (effect Exists t) (effect Done (token_added org name digest role bounds.until bounds.prefix t))) c.if-branch.true
          (token_there org name digest role bounds t c.in_ok-cap.cap c.in_ok-is_taken.field-0 there (cap.0 t held) (taken.0 t (subst (λ (db : Database). Holds db t) (sym cap.1.0.0.now_is) held)))),
      tt,
    )

pub returns-clause-done : goal.returns-clause-done
returns-clause-done g c clean =
    let h = c.args.conn.now in
    let org = c.args.org.now in
    let name = c.args.name.now in
    let digest = c.args.digest.now in
    let role = c.args.role in
    let bounds = c.args.bounds.now in
    let a = state g.S.Store h in
    let b = state g.S.Store c.cap.new.conn in
    let d = state g.S.Store c.is_taken.new.conn in
    let e = state g.S.Store c.add_token.new.conn in
    let all_committed = c.assert_committed.ensures in
    let clean2 = c.add_token.ensures.ends.so_far clean in
    let cap = c.in_ok-cap.ensures.read (c.is_taken.ensures.so_far clean2) in
    let taken = c.in_ok-is_taken.ensures.sees clean2 in
    let there : is_none c.in_ok-cap.cap ≡ false = search rules in (
      manages_one (token_managed org name digest role bounds) a d e all_committed (token_added org name digest role bounds.until bounds.prefix) Done (unchanged_then a b d (one_query a b cap.1.0) taken.1.0) (c.in_ok-add_token.ensures.done clean).0
          (λ t held. subst (λ x. token_managed org name digest role bounds t ≡ cond x (effect Exists t) (effect Done (token_added org name digest role bounds.until bounds.prefix t))) c.if-branch.false
          (token_there org name digest role bounds t c.in_ok-cap.cap c.in_ok-is_taken.field-0 there (cap.0 t held) (taken.0 t (subst (λ (db : Database). Holds db t) (sym cap.1.0.0.now_is) held)))),
      tt,
    )
