use Rattle.std.proofs.Common.{◌∙◌}
use Rattle.serve.proofs.DoorLemmas.{secret_answered}
use Rattle.serve.proofs.doors.refusal_reply.Goals as goal

pub returns-in-BadSecret-clause-ok : goal.returns-in-BadSecret-clause-ok
returns-in-BadSecret-clause-ok c = rw c.in-BadSecret.is (c.bad_secret.ensures ∙ secret_answered c.args.is_head)
