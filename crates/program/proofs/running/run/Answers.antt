use Rattle.std.proofs.Common.{rules, refl, inr}
use Rattle.program.proofs.running.run.Goals as goal

pub returns-in-Err-clause-input : goal.returns-in-Err-clause-input
returns-in-Err-clause-input g c = inr (search rules, refl)
