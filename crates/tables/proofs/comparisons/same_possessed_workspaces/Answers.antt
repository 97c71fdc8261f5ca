use Rattle.tables.proofs.Outside.{Error, Ok, refl, NamesApart, workspace_names_of, EqualsWhere, sees_by}
use Rattle.tables.specs.Records.{workspaces_at, workspace_by}
use Rattle.tables.specs.Inner.Comparing.{AreAlike, AreMappedAlike}
use Rattle.tables.proofs.Comparing.{differ, looks_then, workspaces_alike}
use Rattle.tables.proofs.comparisons.same_possessed_workspaces.Goals as goal

pub returns-then-not-are_same-clause-same : goal.returns-then-not-are_same-clause-same
returns-then-not-are_same-clause-same g c = differ g.S.Store Error _ c.args.one.now c.names.new.conn c.args.other.now c.names-2.new.conn _ refl

pub returns-clause-same : goal.returns-clause-same
returns-clause-same g c =
    let org = c.args.org.now in
    let read = c.in_ok-names.names in
    let found = c.in_ok-found.found in
    let says = EqualsWhere NamesApart (workspace_names_of org) in
    looks_then g.S.Store says says (AreMappedAlike (λ t. workspace_by t org) read) (AreAlike workspaces_at org)
    c.args.one.now c.names.new.conn c.same_workspaces.new.one c.args.other.now c.names-2.new.conn c.same_workspaces.new.other read found c.same_workspaces.result
    (λ f t sound good here there mapped. workspaces_alike org read found (rw (c.as_slice.ensures, c.as_slice-2.ensures) at (c.are_same.ensures c.if-not-are_same.false)) f t (here sound.wss_apart) (there good.wss_apart) mapped)
    (sees_by g.S.Store says c.args.one.now c.names.new.conn (Ok read) c.in_ok-names.ensures) (sees_by g.S.Store says c.args.other.now c.names-2.new.conn (Ok found) c.in_ok-found.ensures) c.same_workspaces.ensures.first.so_far c.same_workspaces.ensures.second.so_far (rw c.as_slice-3.ensures at c.same_workspaces.ensures.same)
