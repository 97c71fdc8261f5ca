use Rattle.std.proofs.Common.{refl}
use Rattle.machine.proofs.PlainLemmas.{newest_is_last}
use Rattle.machine.proofs.units.number_of_newest.Goals as goal

pub returns-in-Some : goal.returns-in-Some
returns-in-Some c = rw (← newest_is_last c.args.versions.now, ← c.in-Some.ensures.value) refl
