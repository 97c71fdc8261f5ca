use Rattle.checks.proofs.JudgingLemmas.{judges_law}
use Rattle.checks.proofs.stored_version.version_stored.Goals as goal
use Rattle.std.proofs.lemmas.Result.{on_ok_weaker}

pub returns : goal.returns
returns c = on_ok_weaker c.judge.result (judges_law c.args.found.now c.judge.new.self c.is_stored-reported.ensures.0 c.is_stored-reported.ensures.1) c.judge.ensures
