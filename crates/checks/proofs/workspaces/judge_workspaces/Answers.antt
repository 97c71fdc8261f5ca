use Rattle.checks.proofs.WsLaws.{workspaces_judged, grouped_says}
use Rattle.checks.proofs.workspaces.judge_workspaces.Goals as goal

-- the check at all rows, by groups that are those of the rows
pub returns-clause-judges : goal.returns-clause-judges
returns-clause-judges c = λ t has. workspaces_judged c.args.rows.now c.in_ok-groups.groups c.in_ok-groups.ensures t c.args.found.now c.judge_rows.new.found has c.in_ok-judge_rows.ensures

pub returns-clause-adds : goal.returns-clause-adds
returns-clause-adds c = (grouped_says c.args.rows.now c.in_ok-groups.groups c.in_ok-groups.ensures c.args.found.now c.judge_rows.new.found c.in_ok-judge_rows.ensures).adds
