use Rattle.tables.proofs.Outside.{◌≤◌, length, rules, ◌≡◌, true, false, arith, Error}
use Rattle.tables.specs.Inner.Removals.{is_used_in}
use Rattle.tables.proofs.Using.{still_none, one_found, none_found}
use Rattle.tables.proofs.removals.is_one_in_use.Goals as goal

pub workspaces-preserved : goal.workspaces-preserved
workspaces-preserved g c =
    let org = c.args.org.now in
    let one = rw c.as_str.ensures.text at c.in_ok-is_in_use.ensures.unchanged in
    let is : c.in_ok-is_in_use.field-0 ≡ false = search rules in
    still_none g.S.Store (λ t ws. is_used_in org ws t) c.args.names.now Error Error Error c.workspaces.name-index c.name-item.result c.args.conn.now c.workspaces.conn c.is_in_use.new.conn (omega (arith, c.workspaces-test.true)) c.name-item.is
    c.in_ok-is_in_use.field-0 is c.workspaces.invariant one

pub returns-then-branch : goal.returns-then-branch
returns-then-branch g c =
    let org = c.args.org.now in
    let one = rw c.as_str.ensures.text at c.in_ok-is_in_use.ensures.unchanged in
    let is : c.in_ok-is_in_use.field-0 ≡ true = search rules in
    record {
      unchanged = one_found g.S.Store (λ t ws. is_used_in org ws t) c.args.names.now Error Error Error c.workspaces.name-index c.name-item.result c.args.conn.now c.workspaces.conn c.is_in_use.new.conn (omega (arith, c.workspaces-test.true)) c.name-item.is
          c.in_ok-is_in_use.field-0 is c.workspaces.invariant one;
    }

pub returns : goal.returns
returns g c =
    let names = c.args.names.now in
    let i = c.workspaces.name-index in
    let all : length names ≤ i = omega (arith, c.workspaces.auto.name-index-end, c.workspaces-test.false) in
    record { unchanged = none_found g.S.Store (λ t ws. is_used_in c.args.org.now ws t) names Error i c.args.conn.now c.workspaces.conn all c.workspaces.invariant }
