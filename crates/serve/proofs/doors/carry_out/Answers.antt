use Rattle.serve.proofs.DoorLemmas.{carried_out}
use Rattle.serve.proofs.doors.carry_out.Goals as goal

pub returns-in-Ok-clause-ok : goal.returns-in-Ok-clause-ok
returns-in-Ok-clause-ok g c = λ clean sound.
    carried_out c.args.at c.args.by c.args.asked (g.K.Keep.rows c.args.keep.now) (g.K.Keep.rows c.report.new.keep) c.in-Ok.reported c.answered.result (c.in-Ok.ensures.ok clean sound) c.answered.ensures.reply c.answered.ensures.row
