use Rattle.std.proofs.Common.{ap, Some}
use Rattle.machine.proofs.PlainLemmas.{newest_is_last}
use Rattle.machine.proofs.units.newest_of.Goals as goal

pub returns-in_ok-newest_unit-in-Some : goal.returns-in_ok-newest_unit-in-Some
returns-in_ok-newest_unit-in-Some c = rw (← newest_is_last c.args.versions.now, ← c.in-Some.ensures.value) (ap Some c.in_ok-newest_unit-in-Some.ensures)
