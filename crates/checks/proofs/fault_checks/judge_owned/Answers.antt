use Rattle.checks.proofs.JudgingLemmas.{judges_both, judges_as}
use Rattle.checks.proofs.fault_checks.judge_owned.Goals as goal
use Rattle.std.proofs.lemmas.Result.{on_ok_weaker}

pub returns : goal.returns
returns c =
    let x = c.args.found.now in
    let x1 = c.all_among.new.found in
    let x2 = c.all_of_orgs.new.found in
    let x3 = c.all_among-2.new.found in
    let x4 = c.all_among-3.new.found in
    let z = c.all_among-4.new.found in
    on_ok_weaker c.all_among-4.result (λ last.
    judges_as x z (λ laws. record { kept = laws.0; wss = laws.1.0; retentions = laws.1.1.0; versions = laws.1.1.1.0; runs = laws.1.1.1.1 }) (λ r. (r.kept, (r.wss, (r.retentions, (r.versions, r.runs)))))
    (judges_both x x1 z (rw (c.as_slice-wss.ensures, c.as_slice-retentions.ensures) at c.in_ok-all_among.ensures)
    (judges_both x1 x2 z (rw (c.as_slice-wss.ensures, c.as_slice.ensures) at c.in_ok-all_of_orgs.ensures)
    (judges_both x2 x3 z (rw (c.as_slice-wss.ensures, c.as_slice-retentions.ensures) at c.in_ok-all_among-2.ensures)
    (judges_both x3 x4 z (rw (c.as_slice-wss.ensures, c.as_slice-2.ensures) at c.in_ok-all_among-3.ensures) last)))))
    (rw (c.as_slice-wss.ensures, c.as_slice-3.ensures) at c.all_among-4.ensures)
