use Rattle.tables.proofs.Outside.{rules, ◌≡◌, true, false, is_none, state, Done, Absent, token_removed, one_query}
use Rattle.tables.specs.Inner.Steps.{revocation_managed}
use Rattle.tables.proofs.KeepManaged.{manages_none, manages_one, revocation_nowhere, revocation_there}
use Rattle.tables.proofs.operators.token_revoke.Goals as goal

pub returns-then-is_none-clause-done : goal.returns-then-is_none-clause-done
returns-then-is_none-clause-done g c clean =
    let org = c.args.org.now in
    let name = c.args.name.now in
    let a = state g.S.Store c.args.conn.now in
    let b = state g.S.Store c.role_of_name.new.conn in
    let role = c.in_ok-role.ensures.read clean in
    let nothing : is_none c.in_ok-role.role ≡ true = search rules in (
      manages_none (revocation_managed org name) a b b c.assert_committed.ensures Absent role.1.0.0.was_open role.1.0.0.is_open (one_query a b role.1.0)
          (λ t held. revocation_nowhere org name t c.in_ok-role.role nothing (role.0 t held)),
      tt,
    )

pub returns-clause-done : goal.returns-clause-done
returns-clause-done g c clean =
    let h = c.args.conn.now in
    let org = c.args.org.now in
    let name = c.args.name.now in
    let a = state g.S.Store h in
    let b = state g.S.Store c.role_of_name.new.conn in
    let d = state g.S.Store c.remove_token.new.conn in
    let all_committed = c.assert_committed.ensures in
    let role = c.in_ok-role.ensures.read (c.remove_token.ensures.ends.so_far clean) in
    let found : is_none c.in_ok-role.role ≡ false = search rules in (
      manages_one (revocation_managed org name) a b d all_committed (token_removed org name) Done (one_query a b role.1.0) (c.in_ok-remove_token.ensures.done clean).0
          (λ t held. revocation_there org name t c.in_ok-role.role found (role.0 t held)),
      tt,
    )
