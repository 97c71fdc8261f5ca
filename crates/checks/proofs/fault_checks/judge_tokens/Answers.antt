use Rattle.checks.proofs.JudgingLemmas.{judges_both, judges_as}
use Rattle.checks.proofs.fault_checks.judge_tokens.Goals as goal
use Rattle.std.proofs.lemmas.Result.{on_ok_weaker}

pub returns : goal.returns
returns c =
    let x = c.args.found.now in
    let x1 = c.all_among.new.found in
    let x2 = c.all_of_orgs.new.found in
    let z = c.all_among-2.new.found in
    on_ok_weaker c.all_among-2.result (λ last.
    judges_as x z (λ laws. record { bound = laws.0; tokens = laws.1.0; bounds = laws.1.1 }) (λ r. (r.bound, (r.tokens, r.bounds)))
    (judges_both x x1 z (rw (c.as_slice-tokens.ensures, c.as_slice-bounds.ensures) at c.in_ok-all_among.ensures) (judges_both x1 x2 z (rw (c.as_slice-tokens.ensures, c.as_slice-orgs.ensures) at c.in_ok-all_of_orgs.ensures) last)))
    (rw (c.as_slice-tokens.ensures, c.as_slice-bounds.ensures) at c.all_among-2.ensures)
