use Rattle.tables.proofs.Outside.{⊤, take, Ok, Error, Sees}
use Rattle.tables.specs.Inner.Copies.{RelatedSteps}
use Rattle.tables.specs.Inner.Keys.{KeepsKeys}
use Rattle.tables.specs.Inner.Imports.{TakesFrom, WorkspacesCome}
use Rattle.tables.proofs.imports.copy_workspaces.Given as goal

-- the workspaces so far came
abbrev pub invariant-workspaces : goal.invariant-workspaces
invariant-workspaces g l =
    Sees {X = ⊤} {E = Error} g.T.Store (λ _ _. ⊤) l.fn.from l.from (Ok tt)
    × RelatedSteps {X = ⊤} {E = Error} g.S.Store (KeepsKeys g.K.PageKey.key_of) l.fn.tx l.tx (Ok tt)
    × RelatedSteps {X = ⊤} {E = Error} g.S.Store (TakesFrom g.T.Store (WorkspacesCome l.org (take l.name-index l.names)) l.fn.from l.from) l.fn.tx l.tx (Ok tt)
