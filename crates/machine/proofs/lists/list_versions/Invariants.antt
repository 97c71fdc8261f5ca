use Rattle.std.proofs.Common.{◌≡◌, take}
use Rattle.machine.specs.Showing.{versions_listed}
use Rattle.machine.proofs.lists.list_versions.Given as goal

-- the list of the versions so far
abbrev pub invariant-loop-version : goal.invariant-loop-version
invariant-loop-version l = l.list ≡ versions_listed l.after (take l.version-index l.versions)
