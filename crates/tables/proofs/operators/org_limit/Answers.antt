use Rattle.tables.proofs.Outside.{rules, ◌≡◌, true, false, is_none, state, Done, Absent, org_capped, one_query}
use Rattle.tables.specs.Inner.Steps.{limit_managed}
use Rattle.tables.proofs.KeepManaged.{manages_none, manages_one, limit_nowhere, limit_there}
use Rattle.tables.proofs.operators.org_limit.Goals as goal

pub returns-then-is_none-clause-done : goal.returns-then-is_none-clause-done
returns-then-is_none-clause-done g c clean =
    let org = c.args.org.now in
    let a = state g.S.Store c.args.conn.now in
    let b = state g.S.Store c.cap.new.conn in
    let cap = c.in_ok-cap.ensures.read clean in
    let nothing : is_none c.in_ok-cap.cap ≡ true = search rules in (
      manages_none (limit_managed org c.args.limit) a b b c.assert_committed.ensures Absent cap.1.0.0.was_open cap.1.0.0.is_open (one_query a b cap.1.0) (λ t held. limit_nowhere org c.args.limit t c.in_ok-cap.cap nothing (cap.0 t held)),
      tt,
    )

pub returns-clause-done : goal.returns-clause-done
returns-clause-done g c clean =
    let h = c.args.conn.now in
    let org = c.args.org.now in
    let limit = c.args.limit in
    let a = state g.S.Store h in
    let b = state g.S.Store c.cap.new.conn in
    let d = state g.S.Store c.set_limit.new.conn in
    let all_committed = c.assert_committed.ensures in
    let cap = c.in_ok-cap.ensures.read (c.set_limit.ensures.ends.so_far clean) in
    let found : is_none c.in_ok-cap.cap ≡ false = search rules in (
      manages_one (limit_managed org limit) a b d all_committed (org_capped org limit) Done (one_query a b cap.1.0) (c.in_ok-set_limit.ensures.done clean).0
          (λ t held. limit_there org limit t c.in_ok-cap.cap found (cap.0 t held)),
      tt,
    )
