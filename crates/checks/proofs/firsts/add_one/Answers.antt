use Rattle.checks.proofs.FirstsLemmas.{adds_one}
use Rattle.checks.proofs.firsts.add_one.Goals as goal

pub returns : goal.returns
returns c = adds_one c.args.key c.count_at-count.result c.args.counts.now c.insert.new.self c.count_at-count.ensures c.in-Ok.ensures.updates.0
