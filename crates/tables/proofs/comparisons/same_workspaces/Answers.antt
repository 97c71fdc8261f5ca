use Rattle.tables.proofs.Outside.{Error, refl}
use Rattle.tables.specs.Records.{workspace_by}
use Rattle.tables.proofs.Comparing.{differ, mapped_all, none_yet, one_more}
use Rattle.tables.proofs.comparisons.same_workspaces.Goals as goal

pub items-init : goal.items-init
items-init g c = none_yet g.S.Store (λ t. workspace_by t c.args.org.now) c.args.names.now c.args.one.now c.args.other.now

pub items-preserved : goal.items-preserved
items-preserved g c =
    one_more g.S.Store (λ t. workspace_by t c.args.org.now) c.args.names.now c.items.name-index c.name-item.result c.args.one.now c.items.one c.same_workspace.new.one c.args.other.now c.items.other c.same_workspace.new.other c.in_ok-same_workspace.field-0
    c.items-test.true c.name-item.is c.if-not-branch.false c.items.invariant c.in_ok-same_workspace.ensures.first c.in_ok-same_workspace.ensures.second (rw c.as_str.ensures.text at c.in_ok-same_workspace.ensures.same)

pub returns-then-not-branch-clause-same : goal.returns-then-not-branch-clause-same
returns-then-not-branch-clause-same g c = differ g.S.Store Error _ c.args.one.now c.same_workspace.new.one c.args.other.now c.same_workspace.new.other _ refl

pub returns-clause-same : goal.returns-clause-same
returns-clause-same g c = mapped_all g.S.Store (λ t. workspace_by t c.args.org.now) c.args.names.now c.items.name-index c.args.one.now c.items.one c.args.other.now c.items.other c.items-test.false c.items.invariant
