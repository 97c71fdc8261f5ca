use Rattle.std.proofs.Common.{◌∙◌, ◌++◌, ◌∷◌, [], ap, cond}
use Rattle.checks.specs.Inner.Groups.{group_in}
use Rattle.checks.proofs.GroupLemmas.{empty_group, one_grouped, ws_parts}
use Rattle.checks.proofs.groups.group.Goals as goal

pub loop-row-init : goal.loop-row-init
loop-row-init g c org ws = empty_group org ws c.new-groups.result c.new-groups.ensures.empty

-- what this row holds was put into its group
pub loop-row-preserved : goal.loop-row-preserved
loop-row-preserved g c org ws =
    let x = c.loop-row-item.result in
    one_grouped org ws c.args.rows.now c.loop-row.row-index x _ _ c.loop-row-test.true c.loop-row-item.is (c.loop-row.invariant org ws)
    (c.in_ok-add.ensures org ws ∙ ap (λ b. cond b (group_in org ws c.loop-row.groups ++ x.1.it ∷ []) (group_in org ws c.loop-row.groups)) (ws_parts c.ws_key-key.result x.1.org x.1.name org ws c.as_str.result.now c.as_str-in-loop-row.result.now c.ws_key-key.ensures c.as_str.ensures c.as_str-in-loop-row.ensures))
