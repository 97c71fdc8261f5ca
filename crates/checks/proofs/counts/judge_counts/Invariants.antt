use Rattle.checks.proofs.Outside.{◌≡◌, ℕ, List, [], take, unwrap_or}
use Rattle.checks.specs.Judging.{Judges}
use Rattle.checks.specs.Faults.{TooMany}
use Rattle.checks.specs.Inner.Firsts.{value_at}
use Rattle.checks.specs.Workspaces.{count_in}
use Rattle.checks.specs.Inner.Counts.{AreFew}
use Rattle.checks.proofs.counts.judge_counts.Given as goal

abbrev pub invariant-loop-row : goal.invariant-loop-row
invariant-loop-row l = record {
  counted : (org : List ℕ) → unwrap_or (value_at org [] 0 0 l.counts) 0 ≡ count_in (take l.row-index l.wss) org;
  judged : Judges (TooMany (take l.row-index l.wss)) (AreFew (take l.row-index l.wss)) l.fn.found l.found;
}
