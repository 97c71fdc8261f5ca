use Rattle.machine.proofs.LastingLemmas.{lasts_then}
use Rattle.program.proofs.ServingLemmas.{after_reply_lasts}
use Rattle.program.proofs.serving.serve_next.Goals as goal

pub returns-then-is_logged-clause-lasts : goal.returns-then-is_logged-clause-lasts
returns-then-is_logged-clause-lasts g c =
    let mid = c.answer_next.new.service in
    lasts_then c.args.service.now.keep mid.keep c.after_reply.new.service.keep c.in_ok-is_logged.ensures.lasts (after_reply_lasts g.K.Keep g.F.Files mid.was_down mid.keep c.after_reply.result c.after_reply.new.service.keep c.after_reply.ensures)

pub returns-else-is_logged-clause-lasts : goal.returns-else-is_logged-clause-lasts
returns-else-is_logged-clause-lasts g c =
    let mid = c.answer_next.new.service in
    lasts_then c.args.service.now.keep mid.keep c.after_reply.new.service.keep c.in_ok-is_logged.ensures.lasts (after_reply_lasts g.K.Keep g.F.Files mid.was_down mid.keep c.after_reply.result c.after_reply.new.service.keep c.after_reply.ensures)
