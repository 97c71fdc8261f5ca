use Rattle.checks.proofs.JudgingLemmas.{judges_both, judges_as}
use Rattle.checks.proofs.fault_checks.judge_names.Goals as goal
use Rattle.std.proofs.lemmas.Result.{on_ok_weaker}

pub returns : goal.returns
returns c =
    let x = c.args.found.now in
    let x1 = c.orgs_apart.new.found in
    let x2 = c.names_apart.new.found in
    let x3 = c.digests_apart.new.found in
    let z = c.names_apart-2.new.found in
    on_ok_weaker c.names_apart-2.result (λ last.
    judges_as x z (λ laws. record { orgs = laws.0; tokens = laws.1.0; digests = laws.1.1.0; wss = laws.1.1.1 }) (λ r. (r.orgs, (r.tokens, (r.digests, r.wss))))
    (judges_both x x1 z (rw c.as_slice.ensures at c.in_ok-orgs_apart.ensures)
    (judges_both x1 x2 z (rw c.as_slice-2.ensures at c.in_ok-names_apart.ensures) (judges_both x2 x3 z (rw c.as_slice-3.ensures at c.in_ok-digests_apart.ensures) last))))
    (rw c.as_slice-4.ensures at c.names_apart-2.ensures)
