use Rattle.program.proofs.ErrorLemmas.{sent_on, whole_of}
use Rattle.program.proofs.errors.send_on.Goals as goal

pub returns : goal.returns
returns g c before text written =
    let mid = g.E.ErrorStream.reported c.args.errors.now in
    sent_on before mid (g.E.ErrorStream.reported c.flush.new.self) text c.flush.result (whole_of before mid text c.args.written _ c.in_ok-written.was written) c.flush.ensures.bytes c.flush.ensures.failures
