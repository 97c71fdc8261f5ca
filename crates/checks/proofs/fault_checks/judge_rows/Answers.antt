use Rattle.checks.proofs.JudgingLemmas.{judges_both, judges_as}
use Rattle.checks.proofs.fault_checks.judge_rows.Goals as goal
use Rattle.std.proofs.lemmas.Result.{on_ok_weaker}

pub returns : goal.returns
returns c =
    let x = c.args.found.now in
    let x1 = c.judge_names.new.found in
    let x2 = c.judge_others.new.found in
    let x3 = c.judge_tokens.new.found in
    let x4 = c.judge_owned.new.found in
    let z = c.judge_ranges.new.found in
    on_ok_weaker c.judge_ranges.result (λ last.
    judges_as x z (λ laws. record { names = laws.0; others = laws.1.0; tokens = laws.1.1.0; owned = laws.1.1.1.0; ranges = laws.1.1.1.1 }) (λ r. (r.names, (r.others, (r.tokens, (r.owned, r.ranges)))))
    (judges_both x x1 z c.in_ok-judge_names.ensures (judges_both x1 x2 z c.in_ok-judge_others.ensures (judges_both x2 x3 z c.in_ok-judge_tokens.ensures (judges_both x3 x4 z c.in_ok-judge_owned.ensures last)))))
    c.judge_ranges.ensures
