use Rattle.checks.proofs.JudgingLemmas.{all_reported}
use Rattle.checks.proofs.fault_checks.faults.Goals as goal

pub returns-clause-decides : goal.returns-clause-decides
returns-clause-decides c = λ key_of t are. let checked = c.in_ok-judge.ensures.judges key_of t are in record { holds = λ clean. (checked.reported clean).1; clean = λ law. checked.spared c.new-found.ensures law }

pub returns-clause-reported : goal.returns-clause-reported
returns-clause-reported c = all_reported c.new-found.result.faults c.judge.new.found.faults c.new-found.ensures c.in_ok-judge.ensures.adds
