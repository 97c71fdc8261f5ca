use Rattle.serve.proofs.TakenLemmas.{command_taken, request_taken}
use Rattle.serve.proofs.service.take_step.Goals as goal
use Rattle.std.proofs.Common.{◌≡◌, rules}

pub returns-in-Command-clause-ok : goal.returns-in-Command-clause-ok
returns-in-Command-clause-ok g c = λ clean sound.
    command_taken c.args.step.now c.in-Command.at c.in-Command.command (g.K.Keep.rows c.args.keep.now) (g.K.Keep.rows c.take_command.new.keep) c.take_command.result c.in-Command.is
    (c.take_command.ensures.ok clean sound)

pub returns-in-Request-clause-ok : goal.returns-in-Request-clause-ok
returns-in-Request-clause-ok g c = λ clean sound.
    let same : c.as_slice.result.now ≡ c.in-Request.bytes = search rules in
    request_taken c.args.step.now c.in-Request.at c.in-Request.bytes c.as_slice.result.now (g.K.Keep.rows c.args.keep.now) (g.K.Keep.rows c.take_request.new.keep) c.take_request.result c.in-Request.is same
    (rw (← c.seconds.ensures.value) c.seconds.ensures.most) (c.take_request.ensures.ok clean sound)
