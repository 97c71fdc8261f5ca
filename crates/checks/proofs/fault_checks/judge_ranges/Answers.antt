use Rattle.checks.proofs.JudgingLemmas.{judges_both, judges_as}
use Rattle.checks.proofs.fault_checks.judge_ranges.Goals as goal
use Rattle.std.proofs.lemmas.Result.{on_ok_weaker}

pub returns : goal.returns
returns c =
    let x = c.args.found.now in
    let x1 = c.version_stored.new.found in
    let x2 = c.orgs_in_range.new.found in
    let x3 = c.tokens_in_range.new.found in
    let z = c.bounds_in_range.new.found in
    on_ok_weaker c.bounds_in_range.result (λ last.
    judges_as x z (λ laws. record { reported = laws.0; orgs = laws.1.0; tokens = laws.1.1.0; bounds = laws.1.1.1 }) (λ r. (r.reported, (r.orgs, (r.tokens, r.bounds))))
    (judges_both x x1 z (rw (c.as_slice.ensures, c.as_slice-2.ensures) at c.in_ok-version_stored.ensures)
    (judges_both x1 x2 z (rw c.as_slice-3.ensures at c.in_ok-orgs_in_range.ensures) (judges_both x2 x3 z (rw c.as_slice-4.ensures at c.in_ok-tokens_in_range.ensures) last))))
    (rw c.as_slice-5.ensures at c.bounds_in_range.ensures)
