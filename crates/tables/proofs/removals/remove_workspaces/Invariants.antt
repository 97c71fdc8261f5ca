use Rattle.tables.proofs.Outside.{⊤, take, Ok, Error}
use Rattle.tables.specs.Inner.Copies.{RelatedSteps, AreMadeBy}
use Rattle.tables.specs.Inner.Removals.{workspaces_gone}
use Rattle.tables.proofs.removals.remove_workspaces.Given as goal

-- the workspaces so far went
abbrev pub invariant-workspaces : goal.invariant-workspaces
invariant-workspaces g l = RelatedSteps {X = ⊤} {E = Error} g.S.Store (AreMadeBy (workspaces_gone l.org (take l.name-index l.names))) l.fn.tx l.tx (Ok tt)
