use Rattle.checks.proofs.Outside.{take, AllByRecursion}
use Rattle.checks.specs.Judging.{Judges}
use Rattle.checks.specs.Faults.{OfHeads}
use Rattle.checks.specs.Inner.Heads.{IsSoundHead}
use Rattle.checks.proofs.heads.judge_heads.Given as goal

-- the heads so far are looked at
abbrev pub invariant-loop-head : goal.invariant-loop-head
invariant-loop-head l = Judges (OfHeads l.vpages (take l.head-index l.heads)) (AllByRecursion IsSoundHead (take l.head-index l.heads)) l.fn.found l.found
