use Rattle.std.proofs.Common.{◌≡◌, option_copied, take}
use Rattle.machine.specs.Units.{version_of}
use Rattle.machine.proofs.units.version_of.Given as goal

-- the last one so far of the number
abbrev pub invariant-loop-version : goal.invariant-loop-version
invariant-loop-version l = option_copied l.found ≡ version_of l.n (take l.version-index l.versions)
