use Rattle.tables.proofs.Outside.{⊤, ◌≤◌, ◌+◌, ◌<◌, List, ℕ, length, take, arith, Ok, subst, take_all, Error}
use Rattle.tables.specs.Inner.Copies.{RelatedSteps}
use Rattle.tables.specs.Inner.Imports.{TakesFrom, WorkspaceComes, WorkspacesCome}
use Rattle.tables.proofs.KeyedSteps.{keyed_then}
use Rattle.tables.proofs.Arriving.{workspaces_more, workspace_taken, takes_then, unchanged_on}
use Rattle.tables.proofs.imports.copy_workspaces.Goals as goal

pub workspaces-preserved : goal.workspaces-preserved
workspaces-preserved g c =
    let org = c.args.org.now in
    let names = c.args.names.now in
    let i = c.workspaces.name-index in
    let ws = c.name-item.result in
    let within : i < length names = omega (arith, c.workspaces-test.true) in
    let one = rw c.as_str.ensures.text at c.in_ok-copy_workspace.ensures in
    let came = workspace_taken g.S.Store g.T.Store org ws one.copies.0 c.workspaces.tx c.copy_workspace.new.tx c.workspaces.from c.copy_workspace.new.from _ one.copies.1 one.copies.2 in (
      unchanged_on g.T.Store c.args.from.now c.workspaces.from c.copy_workspace.new.from tt (Ok tt) c.workspaces.invariant.0 one.unchanged,
      keyed_then g.S.Store g.K.PageKey.key_of c.args.tx.now c.workspaces.tx c.copy_workspace.new.tx tt (Ok tt) c.workspaces.invariant.1 one.keyed,
      takes_then g.S.Store g.T.Store (λ _ _. ⊤) (WorkspacesCome org (take i names)) (WorkspaceComes org ws) (WorkspacesCome org (take (i + 1) names)) c.args.tx.now c.workspaces.tx c.copy_workspace.new.tx
          c.args.from.now c.workspaces.from c.copy_workspace.new.from tt tt (Ok tt) (λ f t u z. workspaces_more org names i ws f t u z within c.name-item.is) c.workspaces.invariant.0 one.unchanged.so_far c.workspaces.invariant.2 came,
    )

pub returns-clause-copies : goal.returns-clause-copies
returns-clause-copies g c =
    let names = c.args.names.now in
    let i = c.workspaces.name-index in
    let all : length names ≤ i = omega (arith, c.workspaces.auto.name-index-end, c.workspaces-test.false) in
    subst (λ (ns : List (List ℕ)). RelatedSteps {X = ⊤} {E = Error} g.S.Store (TakesFrom g.T.Store (WorkspacesCome c.args.org.now ns) c.args.from.now c.workspaces.from) c.args.tx.now c.workspaces.tx (Ok tt)) (take_all i names all) c.workspaces.invariant.2
