use Rattle.serve.proofs.RecordLemmas.{there_is}
use Rattle.serve.proofs.checks.is_there.Goals as goal

pub returns-clause-ok : goal.returns-clause-ok
returns-clause-ok g c = λ clean sound some.
    there_is (g.K.Keep.rows c.args.keep.now c.args.org.now) c.args.ws.now c.args.act c.in_ok-unit.unit c.is_present.result some (c.in_ok-unit.ensures.ok clean sound) c.is_present.ensures
