use Rattle.machine.proofs.Outside.{◌≡◌, ◌<◌, ◌==◌, cond, length, get_or, Some, ap, rules, arith, map_over_more}
use Rattle.machine.specs.Rules.{reported}
use Rattle.machine.proofs.edits.record.Goals as goal

pub loop-run-preserved : goal.loop-run-preserved
loop-run-preserved c =
    let x = c.run-item.result in
    let at : x ≡ get_or c.loop-run.run-items c.loop-run.run-index x = c.run-item.is in
    let action : c.recorded_action-run.result ≡ cond (x.number == c.args.n) (Some c.args.action) x.action = search rules in
    let status : c.recorded_status-run.result ≡ cond (x.number == c.args.n) c.args.status x.status = search rules in
    let same : c.deref_mut-run-items.result.now ≡ c.args.runs.now = search rules in
    let within : c.loop-run.run-index < length c.args.runs.now = omega (arith, c.loop-run-test.true, ap length same) in
    rw (← at, action, status) (map_over_more (reported c.args.n c.args.action c.args.status) c.args.runs.now c.loop-run.run-items c.loop-run.run-index x within c.loop-run.invariant at)
