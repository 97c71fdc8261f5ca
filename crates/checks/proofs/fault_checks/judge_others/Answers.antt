use Rattle.checks.proofs.JudgingLemmas.{judges_both, judges_as}
use Rattle.checks.proofs.fault_checks.judge_others.Goals as goal
use Rattle.std.proofs.lemmas.Result.{on_ok_weaker}

pub returns : goal.returns
returns c =
    let x = c.args.found.now in
    let x1 = c.names_apart.new.found in
    let z = c.names_apart-2.new.found in
    on_ok_weaker c.names_apart-2.result (λ last.
    judges_as x z (λ laws. record { bounds = laws.0; retentions = laws.1 }) (λ r. (r.bounds, r.retentions)) (judges_both x x1 z (rw c.as_slice.ensures at c.in_ok-names_apart.ensures) last))
    (rw c.as_slice-2.ensures at c.names_apart-2.ensures)
