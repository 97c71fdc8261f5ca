use Rattle.serve.proofs.TakenLemmas.{said_reported}
use Rattle.serve.proofs.service.take_command.Goals as goal

pub returns-clause-ok : goal.returns-clause-ok
returns-clause-ok g c = λ clean sound at.
    let done = c.in_ok-reported.ensures.ok clean sound in
    let said = said_reported (g.K.Keep.rows c.args.keep.now) c.args.asked.now done.answer _ at done.answered done.reports.text in
    (done.carries at, said.0, said.1)
