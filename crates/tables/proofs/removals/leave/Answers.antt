use Rattle.tables.proofs.Outside.{ap, ◌∙◌, org_row_removed, steps_by}
use Rattle.tables.specs.Inner.Copies.{AreMadeBy}
use Rattle.tables.specs.Inner.Removals.{workspaces_gone, tokens_gone, all_gone_of}
use Rattle.tables.proofs.Copying.{made_by_steps, related_then}
use Rattle.tables.proofs.removals.leave.Goals as goal

pub returns : goal.returns
returns g c =
    let org = c.args.org.now in
    let names = c.args.names.now in
    let list = c.args.list.now in
    let first = c.remove_workspaces.new.tx in
    let second = c.remove_tokens.new.tx in
    let last = c.remove.new.tx in
    related_then g.S.Store (AreMadeBy (workspaces_gone org names)) (AreMadeBy (λ t. org_row_removed org (tokens_gone org list t))) (AreMadeBy (all_gone_of org names list)) c.args.tx.now first last tt c.remove.result
    (λ t u z one two. two ∙ ap (λ v. org_row_removed org (tokens_gone org list v)) one) c.in_ok-remove_workspaces.ensures
    (related_then g.S.Store (AreMadeBy (tokens_gone org list)) (AreMadeBy (org_row_removed org)) (AreMadeBy (λ t. org_row_removed org (tokens_gone org list t))) first second last tt c.remove.result
    (λ t u z one two. two ∙ ap (org_row_removed org) one) c.in_ok-remove_tokens.ensures
    (made_by_steps g.S.Store (org_row_removed org) second last c.remove.result (steps_by g.S.Store (org_row_removed org) second last c.remove.result c.remove.ensures)))
