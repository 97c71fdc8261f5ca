use Rattle.std.proofs.Common.{◌≡◌, drop}
use Rattle.checks.specs.Versions.{rises}
use Rattle.checks.proofs.versions.rise.Given as goal

abbrev pub invariant-loop-number : goal.invariant-loop-number
invariant-loop-number l = rises l.low (drop l.number-index l.numbers) l.next ≡ rises 0 l.numbers l.next
