use Rattle.checks.proofs.JudgingLemmas.{adds_both}
use Rattle.checks.proofs.SoundRows.{judges_sound}
use Rattle.checks.proofs.fault_checks.judge.Goals as goal
use Rattle.std.proofs.lemmas.Result.{on_ok_weaker}

pub returns-clause-judges : goal.returns-clause-judges
returns-clause-judges c =
    on_ok_weaker c.judge_tables.result (λ last key_of t are. judges_sound key_of t c.args.rows.now c.args.found.now c.judge_rows.new.found c.judge_tables.new.found are c.in_ok-judge_rows.ensures (last key_of t are)) c.judge_tables.ensures.judges

pub returns-clause-adds : goal.returns-clause-adds
returns-clause-adds c =
    on_ok_weaker c.judge_tables.result (λ last. adds_both c.args.found.now.faults c.judge_rows.new.found.faults c.judge_tables.new.found.faults c.in_ok-judge_rows.ensures.adds last) c.judge_tables.ensures.adds
