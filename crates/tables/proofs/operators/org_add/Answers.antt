use Rattle.tables.proofs.Outside.{rules, ◌≡◌, true, false, is_some, state, Done, Exists, org_row_added, one_query}
use Rattle.tables.specs.Inner.Steps.{org_managed}
use Rattle.tables.proofs.KeepManaged.{manages_none, manages_one, org_there, org_missing}
use Rattle.tables.proofs.operators.org_add.Goals as goal

pub returns-then-is_some-clause-done : goal.returns-then-is_some-clause-done
returns-then-is_some-clause-done g c clean =
    let org = c.args.org.now in
    let a = state g.S.Store c.args.conn.now in
    let b = state g.S.Store c.cap.new.conn in
    let cap = c.in_ok-cap.ensures.read clean in
    let found : is_some c.in_ok-cap.cap ≡ true = search rules in (
      manages_none (org_managed org c.args.limit) a b b c.assert_committed.ensures Exists cap.1.0.0.was_open cap.1.0.0.is_open (one_query a b cap.1.0) (λ t held. org_there org c.args.limit t c.in_ok-cap.cap found (cap.0 t held)),
      tt,
    )

pub returns-clause-done : goal.returns-clause-done
returns-clause-done g c clean =
    let h = c.args.conn.now in
    let org = c.args.org.now in
    let limit = c.args.limit in
    let a = state g.S.Store h in
    let b = state g.S.Store c.cap.new.conn in
    let d = state g.S.Store c.add_organization.new.conn in
    let all_committed = c.assert_committed.ensures in
    let cap = c.in_ok-cap.ensures.read (c.add_organization.ensures.ends.so_far clean) in
    let found : is_some c.in_ok-cap.cap ≡ false = search rules in (
      manages_one (org_managed org limit) a b d all_committed (org_row_added org limit) Done (one_query a b cap.1.0) (c.in_ok-add_organization.ensures.done clean).0
          (λ t held. org_missing org limit t c.in_ok-cap.cap found (cap.0 t held)),
      tt,
    )
