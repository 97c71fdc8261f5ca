use Rattle.tables.proofs.Outside.{⊤, ◌≤◌, ◌<◌, ◌+◌, List, ℕ, length, take, arith, Ok, subst, take_all, Error}
use Rattle.tables.specs.Inner.Copies.{RelatedSteps, AreMadeBy}
use Rattle.tables.specs.Inner.Removals.{workspaces_gone}
use Rattle.tables.specs.Inner.Edits.{removed_rows}
use Rattle.tables.proofs.Copying.{made_by_steps, related_then}
use Rattle.tables.proofs.Using.{workspaces_more}
use Rattle.tables.proofs.removals.remove_workspaces.Goals as goal

pub workspaces-preserved : goal.workspaces-preserved
workspaces-preserved g c =
    let org = c.args.org.now in
    let names = c.args.names.now in
    let i = c.workspaces.name-index in
    let ws = c.name-item.result in
    let within : i < length names = omega (arith, c.workspaces-test.true) in
    let one = rw c.as_str.ensures.text at c.in_ok-remove.ensures in
    related_then g.S.Store (AreMadeBy (workspaces_gone org (take i names))) (AreMadeBy (removed_rows org ws)) (AreMadeBy (workspaces_gone org (take (i + 1) names))) c.args.tx.now c.workspaces.tx c.remove.new.tx tt (Ok tt)
    (λ t u z. workspaces_more org names i ws t u z within c.name-item.is) c.workspaces.invariant (made_by_steps g.S.Store (removed_rows org ws) c.workspaces.tx c.remove.new.tx (Ok tt) one)

pub returns : goal.returns
returns g c =
    let names = c.args.names.now in
    let i = c.workspaces.name-index in
    let all : length names ≤ i = omega (arith, c.workspaces.auto.name-index-end, c.workspaces-test.false) in
    subst (λ (ns : List (List ℕ)). RelatedSteps {X = ⊤} {E = Error} g.S.Store (AreMadeBy (workspaces_gone c.args.org.now ns)) c.args.tx.now c.workspaces.tx (Ok tt)) (take_all i names all) c.workspaces.invariant
