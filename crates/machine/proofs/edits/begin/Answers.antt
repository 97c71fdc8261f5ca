use Rattle.machine.proofs.Outside.{◌≡◌, ◌<◌, ◌==◌, cond, length, get_or, ap, rules, arith, map_over_more, Planning}
use Rattle.machine.specs.Settling.{begun}
use Rattle.machine.proofs.edits.begin.Goals as goal

pub loop-run-preserved : goal.loop-run-preserved
loop-run-preserved c =
    let x = c.run-item.result in
    let at : x ≡ get_or c.loop-run.run-items c.loop-run.run-index x = c.run-item.is in
    let status : c.begun_status-run.result ≡ cond (x.number == c.args.n) Planning x.status = search rules in
    let same : c.deref_mut-run-items.result.now ≡ c.args.runs.now = search rules in
    let within : c.loop-run.run-index < length c.args.runs.now = omega (arith, c.loop-run-test.true, ap length same) in
    rw (← at, status) (map_over_more (begun c.args.n) c.args.runs.now c.loop-run.run-items c.loop-run.run-index x within c.loop-run.invariant at)
